use Rattle.std.proofs.Common.{◌∙◌}
use Rattle.writer_threads.proofs.Passed.{was_passed_as}
use Rattle.defmt_writers.proofs.Taken.{takes_on, was_told_takes}
use Rattle.defmt_writers.proofs.reader.Reader.serve.Goals as goal

pub returns-clause-takes : goal.returns-clause-takes
returns-clause-takes g c =
    let front = takes_on _ _ _ _ _ _ 0 0 (takes_on _ _ _ _ _ _ 0 0 c.serve.ensures.takes c.serve-2.ensures.takes) (takes_on _ _ _ _ _ _ 0 0 c.serve-3.ensures.takes c.serve-4.ensures.takes) in
    let back = takes_on _ _ _ _ _ _ 0 0 (takes_on _ _ _ _ _ _ 0 0 c.serve-5.ensures.takes c.serve-6.ensures.takes) (takes_on _ _ _ _ _ _ 0 0 c.serve-7.ensures.takes c.serve-8.ensures.takes) in
    takes_on _ _ _ _ _ _ 0 0 front back

pub returns-clause-asked0 : goal.returns-clause-asked0
returns-clause-asked0 g c = was_passed_as (g.N.FromSplit.passed 0) (g.G.Gate.passed c.args.self.now.gate.now 0) _ _ (c.args.self.now.lets 0) c.serve.ensures.asked

pub returns-clause-asked1 : goal.returns-clause-asked1
returns-clause-asked1 g c = was_passed_as (g.N.FromSplit.passed 1) (g.G.Gate.passed c.args.self.now.gate.now 1) _ _ (c.args.self.now.lets 1) c.serve-2.ensures.asked

pub returns-clause-asked2 : goal.returns-clause-asked2
returns-clause-asked2 g c = was_passed_as (g.N.FromSplit.passed 2) (g.G.Gate.passed c.args.self.now.gate.now 2) _ _ (c.args.self.now.lets 2) c.serve-3.ensures.asked

pub returns-clause-asked3 : goal.returns-clause-asked3
returns-clause-asked3 g c = was_passed_as (g.N.FromSplit.passed 3) (g.G.Gate.passed c.args.self.now.gate.now 3) _ _ (c.args.self.now.lets 3) c.serve-4.ensures.asked

pub returns-clause-asked4 : goal.returns-clause-asked4
returns-clause-asked4 g c = was_passed_as (g.N.FromSplit.passed 4) (g.G.Gate.passed c.args.self.now.gate.now 4) _ _ (c.args.self.now.lets 4) c.serve-5.ensures.asked

pub returns-clause-asked5 : goal.returns-clause-asked5
returns-clause-asked5 g c = was_passed_as (g.N.FromSplit.passed 5) (g.G.Gate.passed c.args.self.now.gate.now 5) _ _ (c.args.self.now.lets 5) c.serve-6.ensures.asked

pub returns-clause-asked6 : goal.returns-clause-asked6
returns-clause-asked6 g c = was_passed_as (g.N.FromSplit.passed 6) (g.G.Gate.passed c.args.self.now.gate.now 6) _ _ (c.args.self.now.lets 6) c.serve-7.ensures.asked

pub returns-clause-asked7 : goal.returns-clause-asked7
returns-clause-asked7 g c = was_passed_as (g.N.FromSplit.passed 7) (g.G.Gate.passed c.args.self.now.gate.now 7) _ _ (c.args.self.now.lets 7) c.serve-8.ensures.asked

pub invariant_of-self : goal.invariant_of-self
invariant_of-self g c =
    let reader = c.args.self.now in
    let named = g.N.FromSplit.told in
    let shown = g.G.Gate.told reader.gate.now in
    let t0 = was_told_takes named shown 0 _ _ _ _ 0 reader.means c.serve.ensures.takes reader.told c.serve.ensures.told in
    let t1 = was_told_takes named shown 0 _ _ _ _ 0 reader.means c.serve-2.ensures.takes t0 c.serve-2.ensures.told in
    let t2 = was_told_takes named shown 0 _ _ _ _ 0 reader.means c.serve-3.ensures.takes t1 c.serve-3.ensures.told in
    let t3 = was_told_takes named shown 0 _ _ _ _ 0 reader.means c.serve-4.ensures.takes t2 c.serve-4.ensures.told in
    let t4 = was_told_takes named shown 0 _ _ _ _ 0 reader.means c.serve-5.ensures.takes t3 c.serve-5.ensures.told in
    let t5 = was_told_takes named shown 0 _ _ _ _ 0 reader.means c.serve-6.ensures.takes t4 c.serve-6.ensures.told in
    let t6 = was_told_takes named shown 0 _ _ _ _ 0 reader.means c.serve-7.ensures.takes t5 c.serve-7.ensures.told in
    let t7 = was_told_takes named shown 0 _ _ _ _ 0 reader.means c.serve-8.ensures.takes t6 c.serve-8.ensures.told in
    record {
      split = c.serve-8.ensures.split ∙ c.serve-7.ensures.split ∙ c.serve-6.ensures.split ∙ c.serve-5.ensures.split ∙ c.serve-4.ensures.split ∙ c.serve-3.ensures.split ∙ c.serve-2.ensures.split ∙ c.serve.ensures.split ∙ reader.split;
      got = c.serve-8.ensures.got;
      lets = reader.lets;
      means = reader.means;
      told = t7;
    }
