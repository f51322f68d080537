use Rattle.defmt_shapes.proofs.scan.enclosed.Goals as goal

pub returns-clause-parts : goal.returns-clause-parts
returns-clause-parts c = rw c.in-Round.is (c.in-Some.ensures.parts c.args.language)
