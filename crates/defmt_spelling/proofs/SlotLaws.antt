-- The slots of places, and the language that they are of.
use Rattle.std.proofs.Common.{◌≡◌, ◌+◌, ℕ, List, [], ◌∷◌, Option, refl, sym, ap, subst, ◌∙◌}
use Rattle.std.specs.Prelude.{All}
use Rattle.std.proofs.lemmas.List.Elements.{All-head, All-rest}
use Rattle.defmt_grammar.proofs.BaseLaws.{IsBaseSlot}
use Rattle.defmt_grammar.specs.Slots.{slots_of}
use Rattle.defmt_grammar.specs.declared.language.Language.{Language}
use Rattle.defmt_grammar.specs.declared.language.Language.TheVariants.{Base, Full}
use Rattle.defmt_grammar.specs.declared.piece.Piece.{Piece}
use Rattle.defmt_grammar.specs.declared.slot.Slot.{Slot}
use Rattle.defmt_intern.specs.Table.{Map}
use Rattle.defmt_intern.specs.declared.parsed.Parsed.{Parsed}
use Rattle.defmt_shapes.specs.Shape.{IsFull}
use Rattle.defmt_spelling.proofs.BaseForms as base
use Rattle.defmt_spelling.specs.Printed.{node_slots, own_slots, first_slot, more_slots}
use Rattle.defmt_values.proofs.Forms.{form_there, pieces_there}
use Rattle.defmt_values.specs.Entries.{Place, places_of, places_from}
use Rattle.defmt_values.specs.Fits.{Fits, IsForm, HasPieces}
use Rattle.defmt_values.specs.Plain.{Vals}

abbrev pub places_slots : List Place → List Slot
places_slots [] = []
places_slots (p ∷ ps) = p.slot ∷ places_slots ps

from_slots : (ps : List Piece) (position : ℕ) (slots : List Slot) → places_slots (places_from ps position slots) ≡ slots
from_slots ps position [] = refl
from_slots ps position (slot ∷ slots) = ap (λ (more : List Slot). slot ∷ more) (from_slots ps (position + 1) slots)

places_have : (ps : List Piece) → places_slots (places_of ps) ≡ slots_of ps
places_have ps = from_slots ps 0 (slots_of ps)

-- ---- slots of a language

abbrev pub IsSlotOf : Language → Slot → Type 0
IsSlotOf lang slot = lang ≡ Base → IsBaseSlot slot

abbrev pub AreSlotsOf : Language → List Slot → Type 0
AreSlotsOf lang there = lang ≡ Base → All IsBaseSlot there

pub first_of_language : (lang : Language) (there : List Slot) → AreSlotsOf lang there → IsSlotOf lang (first_slot there)
first_of_language lang [] b e = tt
first_of_language lang (slot ∷ more) b e = All-head IsBaseSlot slot more (b e)

pub more_of_language : (lang : Language) (there : List Slot) → AreSlotsOf lang there → AreSlotsOf lang (more_slots there)
more_of_language lang [] b e = b e
more_of_language lang (slot ∷ more) b e = All-rest IsBaseSlot slot more (slot ∷ more) refl (b e)

-- what stands in a slot that Base has not is of the language Full
pub slot_full : (lang : Language) (slot other : Slot) → (IsBaseSlot other → ⊥) → IsSlotOf lang slot → slot ≡ other → IsFull lang
slot_full Base slot other n b e = n (subst IsBaseSlot e (b refl))
slot_full Full slot other n b e = tt

-- ---- the slots of entries

pub node_slots_are : (t : Map) (index : ℕ) (form : Parsed) (variant : Option ℕ) (ps : List Piece) → IsForm t index form → HasPieces form variant ps → places_slots (places_of ps) ≡ node_slots t index variant
node_slots_are t index form variant ps f h = rw (form_there t index form variant ps f h, pieces_there form variant ps h) (places_have ps)

pub slots_of_language : (t : Map) (index : ℕ) (form : Parsed) (variant : Option ℕ) (ps : List Piece) → IsForm t index form → HasPieces form variant ps → AreSlotsOf t.language (node_slots t index variant)
slots_of_language t index form variant ps f h e =
    subst (All IsBaseSlot) (sym (places_have ps) ∙ node_slots_are t index form variant ps f h) (base.form_slots t index form variant ps f h e)

pub own_slots_are : (t : Map) (index : ℕ) (vs : Vals) (f : Fits t index vs) → places_slots (places_of f.pieces) ≡ own_slots t index
own_slots_are t index vs f = rw (f.there, f.body) (places_have f.pieces)

pub own_of_language : (t : Map) (index : ℕ) (vs : Vals) (f : Fits t index vs) → AreSlotsOf t.language (own_slots t index)
own_of_language t index vs f e =
    subst (All IsBaseSlot) (sym (places_have f.pieces) ∙ own_slots_are t index vs f) (base.own_slots t f.entry f.pieces f.body e)
