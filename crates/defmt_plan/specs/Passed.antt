-- What one pass over a value without others inside leaves, or over a field.
use Rattle.std.specs.Prelude.{◌≡◌, ◌<◌, ◌+◌, ◌*◌, ◌^◌, ℕ, List, Option, Some, None}
use Rattle.byteorder.specs.Endian.{little_bytes}
use Rattle.defmt_grammar.specs.declared.hint.Hint.{Hint}
use Rattle.defmt_grammar.specs.declared.kind.Kind.{Kind}
use Rattle.defmt_grammar.specs.declared.slot.Slot.TheVariants as slots
use Rattle.defmt_hints.specs.Printed.{printed_bits}
use Rattle.defmt_hints.specs.Written.{Kept}
use Rattle.defmt_intern.specs.Table.{Map}
use Rattle.defmt_values.specs.Fits.{FitsVal, weigh_val}
use Rattle.defmt_values.specs.Plain.{Val}
use Rattle.defmt_values.specs.Sound.{IsSound}
use Rattle.defmt_encode.specs.Carry.{bytes_val}
use Rattle.defmt_encode.specs.Lengths.{LengthFits}
use Rattle.defmt_eager.specs.Answers.{Placed}
use Rattle.defmt_eager.specs.Show.{show_val}
use Rattle.defmt_plan.specs.Carried.{Carried}
use Rattle.defmt_plan.specs.declared.bits.Field.{Field}
use Rattle.defmt_plan.specs.declared.leaves.Progress.{Progress}

-- a value that the bytes between two places carry for a kind, with its text behind a place; it holds no Format values
pub record PassedOne (t : Map) (kind : Kind) (hint : Hint) (bytes : List ℕ) (from to : ℕ)
    (old : List ℕ) (at : ℕ) (new : List ℕ) (end : ℕ) : Type 0 where
  pub value : Val
  pub weightless : (weight : ℕ) → weigh_val t weight value ≡ 0
  pub fits : (left : ℕ) → FitsVal t left (slots.One kind) value
  pub sound : IsSound value
  pub lengths : LengthFits t (slots.One kind) value
  pub carried : Carried bytes from to (bytes_val t (slots.One kind) value)
  pub written : Placed old at new end (show_val t value kind hint)

abbrev pub PassesOne : Option Progress → Map → Kind → Hint → List ℕ → Progress → List ℕ → List ℕ
    → Type 0
PassesOne None t kind hint bytes before old new = Kept old before.written new
PassesOne (Some after) t kind hint bytes before old new =
    PassedOne t kind hint bytes before.read after.read old before.written new after.written

-- the bytes behind a place carry what is sent of a number, with the text of a field of it behind a place
pub record PassedField (field : Field) (hint : Hint) (bytes : List ℕ) (from : ℕ)
    (old : List ℕ) (at : ℕ) (new : List ℕ) (end : ℕ) : Type 0 where
  pub sent : ℕ
  pub small : sent < 256 ^ field.width
  pub carried : Carried bytes from (from + field.width) (little_bytes field.width sent)
  pub written : Placed old at new end
      (printed_bits (sent * 256 ^ field.first) field.lo field.hi hint)

abbrev pub PassesField : Option ℕ → Field → Hint → List ℕ → Progress → List ℕ → List ℕ → Type 0
PassesField None field hint bytes before old new = Kept old before.written new
PassesField (Some end) field hint bytes before old new =
    PassedField field hint bytes before.read old before.written new end
