use denote.Exit.{no}
use denote.Param.Send.{arg_send, param_send}
use Rattle.std.proofs.Common.{◌≡◌, ◌∙◌}
use Rattle.defmt_frames.specs.Frames.{count}
use Rattle.defmt_logger.specs.Tape.{marks_of}
use Rattle.std.proofs.lemmas.Result.{IfOk-weaker}
use Rattle.writer_threads.proofs.Passed.{asked_of_all}
use Rattle.writer_threads.specs.Passing.{WasPassed}
use Rattle.defmt_writers.proofs.Ends.{below_eight}
use Rattle.defmt_writers.proofs.Sends.{logging_send}
use Rattle.defmt_writers.proofs.script_run.run_named.Goals as goal

pub run_threads-pens-requires-send-T : goal.run_threads-pens-requires-send-T
run_threads-pens-requires-send-T g c κs within =
    let b = c.type_bounds in
    param_send 2 _ (arg_send _ no _ (logging_send _ _ _ g.K.Naming g.H.Up.UpEnd g.C.Clock b.send-K b.send-H-Up b.send-C))

pub settle_run-requires-clause-all : goal.settle_run-requires-clause-all
settle_run-requires-clause-all g c κs within =
    let close = c.close-tape.ensures in
    let ends = c.serve.ensures in
    below_eight (λ w. marks_of w c.close-tape.result.0.marks ≡ count g.K.Naming.script w)
    (close.p0 ∙ ends.p0 ∙ c.serve.new.pens.p0.all)
    (close.p1 ∙ ends.p1 ∙ c.serve.new.pens.p1.all)
    (close.p2 ∙ ends.p2 ∙ c.serve.new.pens.p2.all)
    (close.p3 ∙ ends.p3 ∙ c.serve.new.pens.p3.all)
    (close.p4 ∙ ends.p4 ∙ c.serve.new.pens.p4.all)
    (close.p5 ∙ ends.p5 ∙ c.serve.new.pens.p5.all)
    (close.p6 ∙ ends.p6 ∙ c.serve.new.pens.p6.all)
    (close.p7 ∙ ends.p7 ∙ c.serve.new.pens.p7.all)

pub returns-clause-asked : goal.returns-clause-asked
returns-clause-asked g c =
    let first = c.in_ok-logger.ensures in
    let threads = c.run_threads-pens.ensures in
    let rest = c.serve.ensures in
    let ends = c.serve.new.pens in
    let all = below_eight (λ w. WasPassed (g.N.FromSplit.passed w) 0 (count g.K.Naming.script w))
    (asked_of_all (g.N.FromSplit.passed 0) (g.G.Gate.passed c.args.gate.now 0) _ _ _ _ first.p0 (rest.p0 ∙ ends.p0.all) (c.requires.lets 0) threads.asked0 rest.asked0)
    (asked_of_all (g.N.FromSplit.passed 1) (g.G.Gate.passed c.args.gate.now 1) _ _ _ _ first.p1 (rest.p1 ∙ ends.p1.all) (c.requires.lets 1) threads.asked1 rest.asked1)
    (asked_of_all (g.N.FromSplit.passed 2) (g.G.Gate.passed c.args.gate.now 2) _ _ _ _ first.p2 (rest.p2 ∙ ends.p2.all) (c.requires.lets 2) threads.asked2 rest.asked2)
    (asked_of_all (g.N.FromSplit.passed 3) (g.G.Gate.passed c.args.gate.now 3) _ _ _ _ first.p3 (rest.p3 ∙ ends.p3.all) (c.requires.lets 3) threads.asked3 rest.asked3)
    (asked_of_all (g.N.FromSplit.passed 4) (g.G.Gate.passed c.args.gate.now 4) _ _ _ _ first.p4 (rest.p4 ∙ ends.p4.all) (c.requires.lets 4) threads.asked4 rest.asked4)
    (asked_of_all (g.N.FromSplit.passed 5) (g.G.Gate.passed c.args.gate.now 5) _ _ _ _ first.p5 (rest.p5 ∙ ends.p5.all) (c.requires.lets 5) threads.asked5 rest.asked5)
    (asked_of_all (g.N.FromSplit.passed 6) (g.G.Gate.passed c.args.gate.now 6) _ _ _ _ first.p6 (rest.p6 ∙ ends.p6.all) (c.requires.lets 6) threads.asked6 rest.asked6)
    (asked_of_all (g.N.FromSplit.passed 7) (g.G.Gate.passed c.args.gate.now 7) _ _ _ _ first.p7 (rest.p7 ∙ ends.p7.all) (c.requires.lets 7) threads.asked7 rest.asked7)
    in
    IfOk-weaker _ _ _ (λ r _. all) c.settle_run.ensures.script

pub returns-clause-taken : goal.returns-clause-taken
returns-clause-taken g c = IfOk-weaker c.settle_run.result _ _ (λ r taken tells in_time. taken (c.close-tape.ensures.tells ∙ tells) in_time) c.settle_run.ensures.taken
