-- The pieces that the steps of a plan are, and the slots of their values.
use Rattle.std.specs.Prelude.{◌≡◌, ◌+◌, ℕ, Bool, true, false, List, [], ◌∷◌, length, Some}
use Rattle.std.specs.List.{slice_get}
use Rattle.defmt_grammar.specs.Slots.{slots_of, uses_at}
use Rattle.defmt_grammar.specs.declared.hint.Hint.{Hint}
use Rattle.defmt_grammar.specs.declared.kind.IntSize.{IntSize}
use Rattle.defmt_grammar.specs.declared.kind.Kind.{Kind}
use Rattle.defmt_grammar.specs.declared.kind.Kind.TheVariants as kinds
use Rattle.defmt_grammar.specs.declared.piece.Piece.{Piece}
use Rattle.defmt_grammar.specs.declared.piece.Piece.TheVariants.{Literal, Param}
use Rattle.defmt_grammar.specs.declared.slot.Slot.{Slot}
use Rattle.defmt_grammar.specs.declared.slot.Slot.TheVariants as slots
use Rattle.defmt_plan.specs.declared.bits.Field.{Field}
use Rattle.defmt_plan.specs.declared.steps.Step.{Step}
use Rattle.defmt_plan.specs.declared.steps.Step.TheVariants as steps

-- the step of an unsigned number
abbrev pub number_step : IntSize → Hint → Step
number_step size hint = steps.Value (kinds.Uint size) hint

-- the kind of a field of bits, and the window in which its number is sent
abbrev pub field_kind : Field → Kind
field_kind field = kinds.Bits field.lo field.hi

abbrev pub field_slot : Field → Slot
field_slot field = slots.Bits field.first field.width

-- the piece of a step: a value and a field have the position that is next
abbrev pub piece_of : ℕ → Step → Piece
piece_of next (steps.Text text) = Literal text
piece_of next (steps.Value kind hint) = Param (record { position = next; kind = kind; hint = hint })
piece_of next (steps.Peek field hint) =
    Param (record { position = next; kind = field_kind field; hint = hint })
piece_of next (steps.Bits field hint) =
    Param (record { position = next; kind = field_kind field; hint = hint })

-- the position that is next behind a step
abbrev pub behind : ℕ → Step → ℕ
behind next (steps.Text text) = next
behind next (steps.Value kind hint) = next + 1
behind next (steps.Peek field hint) = next
behind next (steps.Bits field hint) = next + 1

-- the pieces of steps in their order, of which the first value has this position
abbrev pub pieces_from : ℕ → List Step → List Piece
pieces_from next [] = []
pieces_from next (step ∷ more) = piece_of next step ∷ pieces_from (behind next step) more

abbrev pub pieces_of : List Step → List Piece
pieces_of all = pieces_from 0 all

-- a step has the slot of the position that is next in a string, which uses that once, unless for fields
abbrev pub IsNextStep : List Piece → ℕ → Step → Type 0
IsNextStep all next (steps.Text text) = Unit {0}
IsNextStep all next (steps.Value kind hint) =
    (slice_get (slots_of all) next ≡ Some (slots.One kind)) × (uses_at next all ≡ 1)
IsNextStep all next (steps.Peek field hint) =
    slice_get (slots_of all) next ≡ Some (field_slot field)
IsNextStep all next (steps.Bits field hint) =
    slice_get (slots_of all) next ≡ Some (field_slot field)

-- steps pass each position of a string from this one on
abbrev pub PassAll : List Piece → ℕ → List Step → Type 0
PassAll all next [] = length (slots_of all) ≡ next
PassAll all next (step ∷ more) = IsNextStep all next step × PassAll all (behind next step) more

-- the steps are these pieces, and pass each position of all the pieces of a string
pub record AreSteps (all pieces : List Piece) (steps : List Step) : Type 0 where
  pub are : pieces_of steps ≡ pieces
  pub pass : PassAll all 0 steps

-- other values may stand inside one of this kind
abbrev pub holds_values : Kind → Bool
holds_values kinds.Format = true
holds_values kinds.FormatSlice = true
holds_values (kinds.FormatArray count) = true
holds_values kind = false
