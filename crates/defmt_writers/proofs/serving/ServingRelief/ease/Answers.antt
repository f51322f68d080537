use Rattle.defmt_writers.proofs.Taken.{was_told_takes}
use Rattle.defmt_writers.proofs.serving.ServingRelief.ease.Goals as goal

pub invariant_of-self : goal.invariant_of-self
invariant_of-self g c =
    let serving = c.args.self.now in
    record {
      means = serving.means;
      told = was_told_takes g.N.Lent.told (g.G.Gate.told serving.gate.now) _ _ _ _ _ 1 serving.means c.take.ensures.takes serving.told ∣ c.take.ensures.told ∣₁;
    }
