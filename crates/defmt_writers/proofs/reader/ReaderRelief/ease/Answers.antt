use Rattle.std.proofs.Common.{◌∙◌}
use Rattle.defmt_writers.proofs.Taken.{took_told, was_told_takes}
use Rattle.defmt_writers.proofs.reader.ReaderRelief.ease.Goals as goal

pub invariant_of-self : goal.invariant_of-self
invariant_of-self g c =
    let reader = c.args.self.now in
    let took = c.take.ensures in
    let shown = g.G.Gate.told reader.gate.now in
    record {
      split = took.split ∙ reader.split;
      got = took.got;
      lets = reader.lets;
      means = reader.means;
      told = was_told_takes g.N.FromSplit.told shown 0 _ _ _ _ _ reader.means took.takes reader.told ∣ took_told shown _ _ _ _ _ took.takes took.room took.few took.told ∣₁;
    }
