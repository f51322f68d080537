use Rattle.defmt_writers.proofs.Taken.{took_told}
use Rattle.defmt_writers.proofs.serving.Loan.take.Goals as goal

pub returns-clause-told : goal.returns-clause-told
returns-clause-told g c =
    let took = c.take.ensures in
    took_told (g.G.Gate.told c.args.gate.now) _ _ _ _ _ took.takes took.room took.few took.told
