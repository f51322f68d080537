use Rattle.writer_threads.proofs.Passed.{means_itself, was_passed_on}
use Rattle.talk_threads.proofs.all_writers.run_all.Goals as goal

pub returns-clause-asked0 : goal.returns-clause-asked0
returns-clause-asked0 g c =
    let passed = g.G.Gate.passed c.args.gate.now 0 in
    was_passed_on passed passed _ _ _ (means_itself passed) c.run_threads-pens.ensures.asked0 ∣ c.finish.ensures.asked0 ∣₁

pub returns-clause-asked1 : goal.returns-clause-asked1
returns-clause-asked1 g c =
    let passed = g.G.Gate.passed c.args.gate.now 1 in
    was_passed_on passed passed _ _ _ (means_itself passed) c.run_threads-pens.ensures.asked1 ∣ c.finish.ensures.asked1 ∣₁

pub returns-clause-asked2 : goal.returns-clause-asked2
returns-clause-asked2 g c =
    let passed = g.G.Gate.passed c.args.gate.now 2 in
    was_passed_on passed passed _ _ _ (means_itself passed) c.run_threads-pens.ensures.asked2 ∣ c.finish.ensures.asked2 ∣₁

pub returns-clause-asked3 : goal.returns-clause-asked3
returns-clause-asked3 g c =
    let passed = g.G.Gate.passed c.args.gate.now 3 in
    was_passed_on passed passed _ _ _ (means_itself passed) c.run_threads-pens.ensures.asked3 ∣ c.finish.ensures.asked3 ∣₁

pub returns-clause-asked4 : goal.returns-clause-asked4
returns-clause-asked4 g c =
    let passed = g.G.Gate.passed c.args.gate.now 4 in
    was_passed_on passed passed _ _ _ (means_itself passed) c.run_threads-pens.ensures.asked4 ∣ c.finish.ensures.asked4 ∣₁

pub returns-clause-asked5 : goal.returns-clause-asked5
returns-clause-asked5 g c =
    let passed = g.G.Gate.passed c.args.gate.now 5 in
    was_passed_on passed passed _ _ _ (means_itself passed) c.run_threads-pens.ensures.asked5 ∣ c.finish.ensures.asked5 ∣₁

pub returns-clause-asked6 : goal.returns-clause-asked6
returns-clause-asked6 g c =
    let passed = g.G.Gate.passed c.args.gate.now 6 in
    was_passed_on passed passed _ _ _ (means_itself passed) c.run_threads-pens.ensures.asked6 ∣ c.finish.ensures.asked6 ∣₁

pub returns-clause-asked7 : goal.returns-clause-asked7
returns-clause-asked7 g c =
    let passed = g.G.Gate.passed c.args.gate.now 7 in
    was_passed_on passed passed _ _ _ (means_itself passed) c.run_threads-pens.ensures.asked7 ∣ c.finish.ensures.asked7 ∣₁
