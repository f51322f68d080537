-- Slots that compare as the same are the same.
use Rattle.std.proofs.Common.{rules, ◌≡◌, Bool, true, ap}
use Rattle.defmt_grammar.specs.contracts.kind.KindPartialEq.TheImpl.{ghosts as kind_ghosts}
use Rattle.defmt_grammar.specs.contracts.slot.SlotPartialEq.TheImpl.{ghosts as slot_ghosts}
use Rattle.defmt_grammar.specs.declared.kind.Kind.{Kind}
use Rattle.defmt_grammar.specs.declared.kind.Kind.TheVariants as kinds
use Rattle.defmt_grammar.specs.declared.slot.Slot.{Slot}
use Rattle.defmt_grammar.specs.declared.slot.Slot.TheVariants as slots

abbrev same_kinds : Kind → Kind → Bool
same_kinds k l = kind_ghosts.eq k l

abbrev pub same_slots : Slot → Slot → Bool
same_slots x y = slot_ghosts.eq x y

one_kind : (k l : Kind) → same_kinds k l ≡ true → k ≡ l
one_kind (kinds.Uint size) l e = search rules
one_kind (kinds.Int size) l e = search rules
one_kind kinds.Bool l e = search rules
one_kind kinds.Char l e = search rules
one_kind kinds.Str l e = search rules
one_kind kinds.Istr l e = search rules
one_kind kinds.Bytes l e = search rules
one_kind (kinds.ByteArray n) l e = search rules
one_kind kinds.Format l e = search rules
one_kind kinds.FormatSlice l e = search rules
one_kind (kinds.FormatArray n) l e = search rules
one_kind (kinds.Bits lo hi) l e = search rules
one_kind (kinds.Float size) l e = search rules
one_kind kinds.Debug l e = search rules
one_kind kinds.Display l e = search rules
one_kind kinds.Sequence l e = search rules

pub one_slot : (x y : Slot) → same_slots x y ≡ true → x ≡ y
one_slot (slots.One k) (slots.One l) e = ap slots.One (one_kind k l e)
one_slot (slots.One k) (slots.Bits first width) e = absurd (cc)
one_slot (slots.Bits first width) (slots.One l) e = absurd (cc)
one_slot (slots.Bits first width) (slots.Bits start count) e = search rules
