use Rattle.std.proofs.Common.{option_map}
use Rattle.defmt_intern.proofs.Slots.{entry_at}
use Rattle.defmt_intern.proofs.map.EntryMap.kept.Goals as goal

pub returns-clause-entry : goal.returns-clause-entry
returns-clause-entry c = entry_at c.self.inside.language c.self.inside.slots.items c.as_slice.result.now c.args.self.now c.args.index (option_map (λ kept. kept.now.entry) c.kept_at.result) c.self.view_is c.as_slice.ensures.value c.kept_at.ensures.entry
