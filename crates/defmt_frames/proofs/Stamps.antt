-- The stamps of a script suit its table: where there are stamps, the text of the timestamp's entry takes one number of 64 bits.
use Rattle.std.proofs.Common.{◌≡◌, ◌∙◌, ℕ, [], ◌∷◌, refl, ap, Option, Some, None}
use Rattle.defmt_intern.specs.Entries as map
use Rattle.defmt_encode.proofs.Entries.{own_slots_are, slots_at_places}
use Rattle.defmt_intern.proofs.Stamps.{stamp_is}
use Rattle.defmt_encode.specs.Carry.{own_slots, stamp_slots}
use Rattle.defmt_grammar.specs.Slots.{kinds_at, positions, slot_of, slots_of}
use Rattle.defmt_grammar.specs.declared.kind.IntSize.TheVariants.{W64}
use Rattle.defmt_grammar.specs.declared.kind.Kind.TheVariants.{Uint}
use Rattle.defmt_grammar.specs.declared.slot.Slot.TheVariants.{One as OneKind}
use Rattle.defmt_intern.specs.Table.{Map, IsLawful as IsLawfulTable}
use Rattle.defmt_intern.specs.declared.entry.Entry.{Entry}
use Rattle.defmt_intern.specs.declared.entry.Tag.TheVariants.{Timestamp}
use Rattle.defmt_macros.specs.Stamps.{StampSuits}
use Rattle.defmt_script.proofs.Stamps.{stamp_body, stamp_looks, stamp_pieces, stamp_spelling}
use Rattle.defmt_script.specs.Lawful.{HasStamp, IsLawful, stamp_in}
use Rattle.defmt_script.specs.Script.{Script}

one_number : slots_of stamp_pieces ≡ OneKind (Uint W64) ∷ []
unfolding slots_of slot_of kinds_at positions
one_number = refl

takes_number : (t : Map) → IsLawfulTable t → (index : ℕ) (entry : Entry) → map.get t index ≡ Some entry → entry.tag ≡ Timestamp → entry.text ≡ stamp_spelling → own_slots t index ≡ OneKind (Uint W64) ∷ []
takes_number t lawful index entry there tag text =
    own_slots_are t index entry stamp_pieces (stamp_looks t lawful index entry there) (stamp_body t.language entry tag text) ∙ slots_at_places stamp_pieces ∙ one_number

suits_by : (stamp : Option (ℕ × ℕ)) (t : Map) (n : ℕ) → HasStamp stamp t → IsLawfulTable t → StampSuits t (stamp_in stamp n)
suits_by None t n has lawful = ap (stamp_slots t) (stamp_is t None lawful has)
suits_by (Some p) t n has lawful =
    ap (stamp_slots t) (stamp_is t (Some has.0) lawful (record { entry = has.1; there = has.2; is_stamp = has.3 }))
    ∙ takes_number t lawful has.0 has.1 has.2 has.3 has.4

pub suits : (s : Script) (n : ℕ) → IsLawful s → StampSuits s.table (stamp_in s.settings.stamp n)
suits s n h = suits_by s.settings.stamp s.table n h.stamp h.table
