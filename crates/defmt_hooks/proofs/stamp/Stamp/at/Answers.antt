use Rattle.defmt_hooks.proofs.stamp.Stamp.at.Goals as goal

pub returns-clause-asked : goal.returns-clause-asked
returns-clause-asked g c = (c.self.inside.clock, c.tick.ensures)
