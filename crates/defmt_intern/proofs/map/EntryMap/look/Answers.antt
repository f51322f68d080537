use Rattle.std.proofs.Common.{sym}
use Rattle.defmt_intern.proofs.map.EntryMap.look.Goals as goal

pub returns-in-Some : goal.returns-in-Some
returns-in-Some c = (sym c.in-Some.ensures.entry, c.in-Some.ensures.read)

pub returns-in-None : goal.returns-in-None
returns-in-None c = sym c.in-None.ensures.entry
