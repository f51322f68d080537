use Rattle.std.proofs.Common.{◌∙◌}
use Rattle.defmt_writers.proofs.Taken.{was_told_takes}
use Rattle.defmt_writers.proofs.reader.Reader.take_all.Goals as goal

pub invariant_of-self : goal.invariant_of-self
invariant_of-self g c =
    let reader = c.args.self.now in
    let took = c.take_all.ensures in
    record {
      split = took.split ∙ reader.split;
      got = took.got;
      lets = reader.lets;
      means = reader.means;
      told = was_told_takes g.N.FromSplit.told (g.G.Gate.told reader.gate.now) 0 _ _ _ _ 0 reader.means took.takes reader.told ∣ took.told ∣₁;
    }
