-- What a text begins with, as a function on lists.
use Rattle.std.specs.Prelude.{ℕ, List, [], ◌∷◌, length, codes, Option, Some, None, Result, Ok, Err, ◌||◌, ◌==◌, if◌then◌else◌}
use Rattle.std.specs.Borrow.{Bor}
use Rattle.defmt_grammar.specs.Cut.{cut, behind, strip}
use Rattle.defmt_grammar.specs.Param.{◌>>=◌, param_of, viewed}
use Rattle.defmt_grammar.specs.declared.fault.Cause.TheVariants as causes
use Rattle.defmt_grammar.specs.declared.fault.Fault.{Fault}
use Rattle.defmt_grammar.specs.declared.fault.Mode.{Mode}
use Rattle.defmt_grammar.specs.declared.param.Param.{Param}
use Rattle.defmt_grammar.specs.declared.step.Step.{Step}
use Rattle.defmt_grammar.specs.declared.step.Step.TheVariants as steps

-- the characters in front that are no braces, and what follows them
unfoldable pub plain : List ℕ → List ℕ × List ℕ
plain [] = ([], [])
plain (c ∷ cs) = if c == 123 || c == 125 then ([], c ∷ cs) else (c ∷ (plain cs).0, (plain cs).1)

-- a step without where it lies in memory
pub data Read : Type 0 where
  run : List ℕ → Read
  hole : Param → ℕ → Read

abbrev pub view_step : Step → Read
view_step (steps.Literal text) = run text.now
view_step (steps.Param param next) = hole param next

abbrev pub view_steps : Result (Step × Bor (List ℕ)) Fault → Result (Read × List ℕ) Fault
view_steps r = viewed (λ p. (view_step p.0, p.1.now)) r

abbrev pub no_end : {A : Type 0} → Result A Fault
no_end = Err (record { cause = causes.Brace; at = 0 })

abbrev pub inside_step : Mode → ℕ → Option (List ℕ × List ℕ) → Result (Read × List ℕ) Fault
inside_step mode next None = no_end
inside_step mode next (Some p) = param_of mode next p.0 >>= λ q. Ok (hole q.0 q.1, p.1)

abbrev pub open_step : Mode → ℕ → Option (List ℕ) → Result (Read × List ℕ) Fault
open_step mode next None = no_end
open_step mode next (Some more) = inside_step mode next (cut 125 more)

abbrev pub close_step : Mode → ℕ → List ℕ → Option (List ℕ) → Result (Read × List ℕ) Fault
close_step mode next text None = open_step mode next (behind 123 text)
close_step mode next text (Some rest) = Ok (run (codes "}"), rest)

abbrev pub brace_step : Mode → ℕ → List ℕ → Option (List ℕ) → Result (Read × List ℕ) Fault
brace_step mode next text None = close_step mode next text (strip (codes "}}") text)
brace_step mode next text (Some rest) = Ok (run (codes "{"), rest)

unfoldable pub step_of : Mode → ℕ → List ℕ → Result (Read × List ℕ) Fault
step_of mode next text = if length (plain text).0 == 0 then brace_step mode next text (strip (codes "{{") text) else Ok (run (plain text).0, (plain text).1)
