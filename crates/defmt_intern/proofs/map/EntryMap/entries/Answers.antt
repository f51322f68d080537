use Rattle.std.proofs.Common.{arith, ap, length}
use Rattle.defmt_intern.proofs.Slots.{entries_are}
use Rattle.defmt_intern.proofs.map.EntryMap.entries.Goals as goal

pub invariant_of-result : goal.invariant_of-result
invariant_of-result c = omega (arith, ap length c.as_slice.ensures.value, c.self.invariant.few)

pub returns : goal.returns
returns c = entries_are c.self.inside.language c.self.inside.slots.items c.as_slice.result.now c.args.self.now c.self.view_is c.as_slice.ensures.value
