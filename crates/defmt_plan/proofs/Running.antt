-- Steps that the arguments of a string are.
use Rattle.std.proofs.Common.{◌≡◌, ◌≤◌, ℕ, List, [], ◌∷◌, ◌+◌, IfSome, length, option_map, refl, sym, Option, Some, None, arith}
use Rattle.defmt_encode.proofs.Numbers.{AreBytes}
use Rattle.defmt_grammar.specs.declared.hint.Hint.{Hint}
use Rattle.defmt_grammar.specs.declared.hint.Hint.TheVariants as hints
use Rattle.defmt_grammar.specs.declared.kind.IntSize.{IntSize}
use Rattle.defmt_grammar.specs.declared.kind.Kind.{Kind}
use Rattle.defmt_grammar.specs.declared.kind.Kind.TheVariants as kinds
use Rattle.defmt_grammar.specs.declared.piece.Piece.{Piece}
use Rattle.defmt_intern.specs.Table.{Map}
use Rattle.defmt_plan.proofs.Leading.{arguments_by}
use Rattle.defmt_plan.proofs.Onward.{Going, going_none, going_more, going_all}
use Rattle.defmt_plan.proofs.Reached.{bits_by, one_by, peek_by, text_by, value_by}
use Rattle.defmt_plan.proofs.Values.{acting_plain}
use Rattle.defmt_plan.specs.Passed.{PassesField, PassesOne}
use Rattle.defmt_plan.specs.Readers.{PassesStepBy, reached}
use Rattle.defmt_plan.specs.Steps.{AreSteps, number_step}
use Rattle.defmt_plan.specs.Told.{PassesArguments}
use Rattle.defmt_eager.specs.Answers.{Placed}
use Rattle.defmt_plan.specs.declared.bits.Field.{Field}
use Rattle.defmt_plan.specs.declared.leaves.Progress.{Progress}
use Rattle.defmt_plan.specs.declared.reach.Reach.{Reach}
use Rattle.defmt_plan.specs.declared.steps.Step.{Step}
use Rattle.defmt_plan.specs.declared.steps.Step.TheVariants as steps

-- ---- one step under no hint

module _ (t : Map) where
  pub stride_text : (text bytes : List ℕ) (before : Progress) (old new : List ℕ) (end : ℕ) → Placed old before.written new end text
      → PassesStepBy (Some (reached (record { read = before.read; written = end }))) t 16 hints.Plain (steps.Text text) bytes (reached before) old new
  stride_text text bytes before old new end p = text_by t 16 hints.Plain text bytes (reached before) old new end p

  pub stride_value : (kind : Kind) (hint : Hint) (bytes : List ℕ) (before : Progress) (old new : List ℕ) (r : Option Progress) → PassesOne r t kind hint bytes before old new → PassesStepBy (option_map reached r) t 16 hints.Plain (steps.Value kind hint) bytes (reached before) old new
  stride_value kind hint bytes before old new r p =
      value_by (option_map reached r) t 16 hints.Plain hint hint kind bytes (reached before) old new (sym (acting_plain hint)) (one_by r t 16 kind hint bytes before 0 old new (omega arith) p)

  pub stride_peek : (field : Field) (hint : Hint) (bytes : List ℕ) (before : Progress) (old new : List ℕ) (r : Option Progress)
      → PassesField (option_map (λ (after : Progress). after.written) r) field hint bytes before old new → IfSome r (λ after. after.read ≡ before.read) → PassesStepBy (option_map reached r) t 16 hints.Plain (steps.Peek field hint) bytes (reached before) old new
  stride_peek field hint bytes before old new None p e = p
  stride_peek field hint bytes before old new (Some after) p e = peek_by (Some (reached after)) t 16 hints.Plain hint hint field bytes (reached before) old new (sym (acting_plain hint)) p e refl

  pub stride_bits : (field : Field) (hint : Hint) (bytes : List ℕ) (before : Progress) (old new : List ℕ) (r : Option Progress)
      → PassesField (option_map (λ (after : Progress). after.written) r) field hint bytes before old new → IfSome r (λ after. after.read ≡ before.read + field.width) → PassesStepBy (option_map reached r) t 16 hints.Plain (steps.Bits field hint) bytes (reached before) old new
  stride_bits field hint bytes before old new None p e = p
  stride_bits field hint bytes before old new (Some after) p e = bits_by (Some (reached after)) t 16 hints.Plain hint hint field bytes (reached before) old new (sym (acting_plain hint)) p e refl

-- ---- all steps

-- where a pass over the steps begins
abbrev pub start_at : ℕ → ℕ → Reach
start_at from at = reached (record { read = from; written = at })

-- whatever finishes the rest of the steps finishes them all
abbrev pub Runs : Map → List Step → List Step → List ℕ → ℕ → ℕ → Progress → List ℕ → List ℕ → Type 0
Runs t whole rest bytes from at now old out = Going t 16 hints.Plain whole rest bytes (start_at from at) (reached now) old out

module _ (t : Map) (whole : List Step) (bytes : List ℕ) (from at : ℕ) (old : List ℕ) where
  pub runs_none : from ≤ length bytes → at ≤ length old → Runs t whole whole bytes from at (record { read = from; written = at }) old old
  runs_none le most = going_none t 16 hints.Plain whole bytes (start_at from at) old (omega arith) le most

  pub runs_more : (step : Step) (rest more : List Step) (now after : Progress) (out new : List ℕ) → Runs t whole rest bytes from at now old out → rest ≡ step ∷ more → PassesStepBy (Some (reached after)) t 16 hints.Plain step bytes (reached now) out new → Runs t whole more bytes from at after old new
  runs_more step rest more now after out new h e p = going_more t 16 hints.Plain whole bytes (start_at from at) old step rest more (reached now) (reached after) out new h e p

  pub runs_all : (rest : List Step) (now : Progress) (out : List ℕ) → Runs t whole rest bytes from at now old out → rest ≡ [] → AreBytes bytes → from ≤ length bytes
      → (all pieces : List Piece) → AreSteps all pieces whole → PassesArguments (Some now) t all pieces bytes from old at out
  runs_all rest now out h e small le all pieces a =
      arguments_by t all pieces bytes from at (reached now) old out small le (going_all t 16 hints.Plain whole bytes (start_at from at) old rest (reached now) out h e all pieces a)

  -- a number that is the only step
  pub runs_one : (size : IntSize) (hint : Hint) (new : List ℕ) (r : Option Progress) → whole ≡ number_step size hint ∷ [] → AreBytes bytes → from ≤ length bytes → at ≤ length old
      → PassesOne r t (kinds.Uint size) hint bytes (record { read = from; written = at }) old new → (all pieces : List Piece) → AreSteps all pieces whole → PassesArguments r t all pieces bytes from old at new
  runs_one size hint new None e small le most p all pieces a = p
  runs_one size hint new (Some after) e small le most p all pieces a =
      let start : Progress = record { read = from; written = at } in
      runs_all [] after new (runs_more (number_step size hint) whole [] start after old new (runs_none le most) e (stride_value t (kinds.Uint size) hint bytes start old new (Some after) p)) refl small le all pieces a
