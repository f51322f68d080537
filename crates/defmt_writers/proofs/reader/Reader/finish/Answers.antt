use Rattle.writer_threads.proofs.Passed.{was_passed_as}
use Rattle.defmt_writers.proofs.reader.Reader.finish.Goals as goal

pub returns-clause-asked0 : goal.returns-clause-asked0
returns-clause-asked0 g c = was_passed_as (g.N.FromSplit.passed 0) (g.G.Gate.passed c.args.self.now.gate.now 0) _ _ (c.args.self.now.lets 0) c.finish.ensures.asked0

pub returns-clause-asked1 : goal.returns-clause-asked1
returns-clause-asked1 g c = was_passed_as (g.N.FromSplit.passed 1) (g.G.Gate.passed c.args.self.now.gate.now 1) _ _ (c.args.self.now.lets 1) c.finish.ensures.asked1

pub returns-clause-asked2 : goal.returns-clause-asked2
returns-clause-asked2 g c = was_passed_as (g.N.FromSplit.passed 2) (g.G.Gate.passed c.args.self.now.gate.now 2) _ _ (c.args.self.now.lets 2) c.finish.ensures.asked2

pub returns-clause-asked3 : goal.returns-clause-asked3
returns-clause-asked3 g c = was_passed_as (g.N.FromSplit.passed 3) (g.G.Gate.passed c.args.self.now.gate.now 3) _ _ (c.args.self.now.lets 3) c.finish.ensures.asked3

pub returns-clause-asked4 : goal.returns-clause-asked4
returns-clause-asked4 g c = was_passed_as (g.N.FromSplit.passed 4) (g.G.Gate.passed c.args.self.now.gate.now 4) _ _ (c.args.self.now.lets 4) c.finish.ensures.asked4

pub returns-clause-asked5 : goal.returns-clause-asked5
returns-clause-asked5 g c = was_passed_as (g.N.FromSplit.passed 5) (g.G.Gate.passed c.args.self.now.gate.now 5) _ _ (c.args.self.now.lets 5) c.finish.ensures.asked5

pub returns-clause-asked6 : goal.returns-clause-asked6
returns-clause-asked6 g c = was_passed_as (g.N.FromSplit.passed 6) (g.G.Gate.passed c.args.self.now.gate.now 6) _ _ (c.args.self.now.lets 6) c.finish.ensures.asked6

pub returns-clause-asked7 : goal.returns-clause-asked7
returns-clause-asked7 g c = was_passed_as (g.N.FromSplit.passed 7) (g.G.Gate.passed c.args.self.now.gate.now 7) _ _ (c.args.self.now.lets 7) c.finish.ensures.asked7
