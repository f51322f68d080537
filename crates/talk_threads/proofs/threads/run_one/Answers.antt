use Rattle.writer_threads.proofs.Passed.{was_passed_on}
use Rattle.talk_threads.proofs.threads.run_one.Goals as goal

pub invariant_of-lent : goal.invariant_of-lent
invariant_of-lent g c =
    let n = g.S.Writer.NUMBER in
    record {
      asked = was_passed_on (g.N.Lending.passed n) (g.G.Gate.passed c.args.gate.now n) _ _ _ c.requires.means c.args.lent.now.asked ∣ c.talk.ensures.asked ∣₁;
    }
