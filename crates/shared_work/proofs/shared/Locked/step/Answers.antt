use Rattle.std.proofs.Common.{ℕ, ◌<◌, sym, subst, arith}
use Rattle.shared_work.proofs.Counted.{stepped}
use Rattle.shared_work.proofs.shared.Locked.step.Goals as goal

pub step-requires-clause-place : goal.step-requires-clause-place
step-requires-clause-place g c =
    let n = g.S.Writer.NUMBER in
    let here : g.T.Work.done c.args.self.now.work n < g.Q.Quota.quota n = omega (arith, c.args.self.now.counted n, c.count.ensures.same, c.args.pen.now.placed, c.args.pen.now.all, c.requires.place) in
    subst (λ (k : ℕ). g.T.Work.done c.args.self.now.work k < g.Q.Quota.quota k) (sym c.NUMBER.ensures) here

pub invariant_of-self : goal.invariant_of-self
invariant_of-self g c =
    let there = c.count.ensures.number in
    record {
      counted = λ w. stepped _ _ _ _ w _ _ (omega (arith, there.0, there.1)) c.count.ensures.totals (c.args.self.now.counted w) c.NUMBER.ensures (c.step.ensures.done w);
    }
