use Rattle.std.proofs.Common.{◌≡◌, ◌<◌, ◌∙◌, ℕ, Bool, true, false, eqb, cond, List, [], ◌∷◌, length, get_or, Some, None, refl, ap, arith}
use Rattle.std.specs.Prelude.{is_some}
use Rattle.std.proofs.lemmas.Bool.{ne_eqb}
use Rattle.defmt_grammar.specs.Cut.{behind}
use Rattle.defmt_shapes.specs.Spelling.{ends_there}
use Rattle.defmt_shapes.proofs.parts.ends_there.Goals as goal

is_some_if : (b : Bool) (cs : List ℕ) → b ≡ is_some (cond b (Some cs) None)
is_some_if true cs = refl
is_some_if false cs = refl

by_first : (rest : List ℕ) → 0 < length rest → eqb (get_or rest 0 0) 32 ≡ ends_there rest
unfolding behind
by_first [] some = absurd (omega arith)
by_first (c ∷ cs) some = rw (ne_eqb (length (c ∷ cs)) 0 (λ e. omega (arith, e))) (is_some_if (eqb c 32) cs)

pub returns-in-len1-up : goal.returns-in-len1-up
returns-in-len1-up c = ap (λ (t : List ℕ). eqb (get_or t 0 0) 32) c.as_bytes.ensures.value ∙ by_first c.args.rest.now (omega arith)
