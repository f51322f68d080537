use Rattle.defmt_framing.proofs.Standing.{stands_new}
use Rattle.defmt_framing.proofs.framer.Framer.new.Goals as goal

pub returns : goal.returns
returns c = stands_new c.new.result.items c.new.ensures.items
