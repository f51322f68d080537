use denote.Exit.{no}
use denote.Param.Send.{arg_send, param_send}
use Rattle.std.proofs.Common.{◌≡◌, ◌∙◌}
use Rattle.defmt_frames.specs.Frames.{count}
use Rattle.defmt_logger.specs.Tape.{marks_of}
use Rattle.std.proofs.lemmas.Result.{IfOk-weaker}
use Rattle.writer_threads.proofs.Passed.{asked_from_first}
use Rattle.writer_threads.specs.Passing.{WasPassed}
use Rattle.defmt_writers.proofs.Ends.{below_eight}
use Rattle.defmt_writers.proofs.Sends.{logging_send}
use Rattle.rtt_booth.specs.Said.{words_of}
use Rattle.rtt_terminal.specs.Speech.{count_said}
use Rattle.defmt_talk.proofs.talk_run.run_started.Goals as goal

pub run_all-pens-requires-send-T : goal.run_all-pens-requires-send-T
run_all-pens-requires-send-T g c κs within =
    let b = c.type_bounds in
    param_send 2 _ (arg_send _ no _ (logging_send _ _ _ g.K.Naming g.H.Up.UpEnd g.C.Clock b.send-K b.send-H-Up b.send-C))

pub settle_both-requires-clause-all : goal.settle_both-requires-clause-all
settle_both-requires-clause-all g c κs within =
    let close = c.close-tape.ensures in
    let ends = c.run_all-pens.ensures in
    below_eight (λ w. marks_of w c.close-tape.result.0.marks ≡ count g.K.Naming.script w)
    (close.p0 ∙ ends.p0 ∙ c.run_all-pens.result.0.p0.all)
    (close.p1 ∙ ends.p1 ∙ c.run_all-pens.result.0.p1.all)
    (close.p2 ∙ ends.p2 ∙ c.run_all-pens.result.0.p2.all)
    (close.p3 ∙ ends.p3 ∙ c.run_all-pens.result.0.p3.all)
    (close.p4 ∙ ends.p4 ∙ c.run_all-pens.result.0.p4.all)
    (close.p5 ∙ ends.p5 ∙ c.run_all-pens.result.0.p5.all)
    (close.p6 ∙ ends.p6 ∙ c.run_all-pens.result.0.p6.all)
    (close.p7 ∙ ends.p7 ∙ c.run_all-pens.result.0.p7.all)

pub settle_both-requires-clause-all_said : goal.settle_both-requires-clause-all_said
settle_both-requires-clause-all_said g c κs within =
    let close = c.close-said.ensures in
    let ends = c.run_all-pens.ensures in
    below_eight (λ w. words_of w c.close-said.result.0.words ≡ count_said g.V.Naming.speech w)
    (close.p0 ∙ ends.v0 ∙ c.run_all-pens.result.1.p0.all)
    (close.p1 ∙ ends.v1 ∙ c.run_all-pens.result.1.p1.all)
    (close.p2 ∙ ends.v2 ∙ c.run_all-pens.result.1.p2.all)
    (close.p3 ∙ ends.v3 ∙ c.run_all-pens.result.1.p3.all)
    (close.p4 ∙ ends.v4 ∙ c.run_all-pens.result.1.p4.all)
    (close.p5 ∙ ends.v5 ∙ c.run_all-pens.result.1.p5.all)
    (close.p6 ∙ ends.v6 ∙ c.run_all-pens.result.1.p6.all)
    (close.p7 ∙ ends.v7 ∙ c.run_all-pens.result.1.p7.all)

pub returns-clause-asked : goal.returns-clause-asked
returns-clause-asked g c =
    let first = c.requires.fresh in
    let ran = c.run_all-pens.ensures in
    let pens = c.run_all-pens.result.0 in
    let all = below_eight (λ w. WasPassed (g.G.Gate.passed c.args.gate.now w) 0 (count g.K.Naming.script w))
    (asked_from_first (g.G.Gate.passed c.args.gate.now 0) _ _ _ first.0 (ran.p0 ∙ pens.p0.all) ran.asked0)
    (asked_from_first (g.G.Gate.passed c.args.gate.now 1) _ _ _ first.1 (ran.p1 ∙ pens.p1.all) ran.asked1)
    (asked_from_first (g.G.Gate.passed c.args.gate.now 2) _ _ _ first.2 (ran.p2 ∙ pens.p2.all) ran.asked2)
    (asked_from_first (g.G.Gate.passed c.args.gate.now 3) _ _ _ first.3 (ran.p3 ∙ pens.p3.all) ran.asked3)
    (asked_from_first (g.G.Gate.passed c.args.gate.now 4) _ _ _ first.4 (ran.p4 ∙ pens.p4.all) ran.asked4)
    (asked_from_first (g.G.Gate.passed c.args.gate.now 5) _ _ _ first.5 (ran.p5 ∙ pens.p5.all) ran.asked5)
    (asked_from_first (g.G.Gate.passed c.args.gate.now 6) _ _ _ first.6 (ran.p6 ∙ pens.p6.all) ran.asked6)
    (asked_from_first (g.G.Gate.passed c.args.gate.now 7) _ _ _ first.7 (ran.p7 ∙ pens.p7.all) ran.asked7)
    in
    IfOk-weaker _ _ _ (λ r _. all) c.settle_both.ensures.script

pub returns-clause-taken : goal.returns-clause-taken
returns-clause-taken g c = IfOk-weaker c.settle_both.result _ _ (λ r taken tells in_time. taken (c.close-tape.ensures.tells ∙ tells) in_time) c.settle_both.ensures.taken

pub returns-clause-texts_taken : goal.returns-clause-texts_taken
returns-clause-texts_taken g c = IfOk-weaker c.settle_both.result _ _ (λ r taken tells. taken (c.close-said.ensures.tells ∙ tells)) c.settle_both.ensures.texts_taken
