use Rattle.std.proofs.Common.{◌∙◌}
use Rattle.defmt_intern.proofs.Slots.{whole_copied, copied_map, in_language}
use Rattle.defmt_intern.proofs.map.EntryMap.copy.Goals as goal

pub invariant_of-result : goal.invariant_of-result
invariant_of-result c = whole_copied c.self.inside.language c.self.inside.slots.items c.in_ok-copy_slots.field-0.items c.as_slice.result.now c.self.inside.count c.self.inside.stamp c.self.invariant c.as_slice.ensures.value c.in_ok-copy_slots.ensures.entries c.in_ok-copy_slots.ensures.read

pub returns : goal.returns
returns c = in_language c.self.inside.language c.in_ok-copy_slots.field-0.items c.self.inside.slots.items (copied_map c.self.inside.slots.items c.in_ok-copy_slots.field-0.items c.as_slice.result.now c.as_slice.ensures.value c.in_ok-copy_slots.ensures.entries) ∙ c.self.view_is
