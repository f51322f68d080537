use Rattle.defmt_hooks.proofs.watch.Watch.keep.Goals as goal

pub returns-clause-asked : goal.returns-clause-asked
returns-clause-asked g c = (c.self.inside.judge, c.judge.ensures)
