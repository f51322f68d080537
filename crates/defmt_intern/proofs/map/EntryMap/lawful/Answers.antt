use Rattle.std.proofs.Common.{subst}
use Rattle.defmt_intern.specs.Table.{IsLawful}
use Rattle.defmt_intern.proofs.map.EntryMap.lawful.Goals as goal

pub returns : goal.returns
returns c = subst IsLawful c.self.view_is c.self.invariant.kept.lawful
