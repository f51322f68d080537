use Rattle.defmt_shapes.proofs.scan.numbers_behind.Goals as goal

pub returns-in_ok-rest-in-Round-clause-parts : goal.returns-in_ok-rest-in-Round-clause-parts
returns-in_ok-rest-in-Round-clause-parts c = λ language. (c.in-Round.is, (c.in_ok-rest-in-Round.field-0-0.now, rw c.in-Round.is (c.in_ok-rest-in-Round.ensures.parts language)))
