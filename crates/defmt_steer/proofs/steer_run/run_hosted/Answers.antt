use denote.Exit.{no}
use denote.Param.Send.{arg_send, param_send}
use Rattle.std.proofs.Common.{◌≡◌, ◌∙◌}
use Rattle.defmt_frames.specs.Frames.{count}
use Rattle.std.proofs.lemmas.Result.{IfOk-weaker}
use Rattle.writer_threads.proofs.Passed.{asked_of_all, means_itself}
use Rattle.writer_threads.specs.Passing.{WasPassed}
use Rattle.defmt_writers.proofs.Ends.{below_eight}
use Rattle.defmt_steer.proofs.Hosted.{kept_same}
use Rattle.defmt_steer.proofs.SteeredSends.{steering_send}
use Rattle.rtt_down.specs.Steered.{turns_of}
use Rattle.defmt_steer.proofs.steer_run.run_hosted.Goals as goal

pub run_threads-helms-requires-send-T : goal.run_threads-helms-requires-send-T
run_threads-helms-requires-send-T g c κs within =
    let b = c.type_bounds in
    param_send 2 _ (arg_send _ no _ (steering_send _ _ _ _ g.K.Naming g.H.Up.UpEnd g.H.Down.DownEnd g.C.Clock b.send-K b.send-H-Up b.send-H-Down b.send-C))

pub settle_steered-requires-clause-all : goal.settle_steered-requires-clause-all
settle_steered-requires-clause-all g c κs within =
    let close = c.close-turns.ensures in
    let ends = c.finish.ensures in
    below_eight (λ w. turns_of w c.close-turns.result.0.turns ≡ count g.K.Naming.script w)
    (close.p0 ∙ ends.p0 ∙ c.finish.new.pens.p0.all)
    (close.p1 ∙ ends.p1 ∙ c.finish.new.pens.p1.all)
    (close.p2 ∙ ends.p2 ∙ c.finish.new.pens.p2.all)
    (close.p3 ∙ ends.p3 ∙ c.finish.new.pens.p3.all)
    (close.p4 ∙ ends.p4 ∙ c.finish.new.pens.p4.all)
    (close.p5 ∙ ends.p5 ∙ c.finish.new.pens.p5.all)
    (close.p6 ∙ ends.p6 ∙ c.finish.new.pens.p6.all)
    (close.p7 ∙ ends.p7 ∙ c.finish.new.pens.p7.all)

pub settle_steered-requires-clause-kept : goal.settle_steered-requires-clause-kept
settle_steered-requires-clause-kept g c κs within = kept_same _ _ _ _ _ c.close-turns.ensures.kept c.take_rest.ensures.kept c.take_rest.ensures.sent

pub returns-clause-asked : goal.returns-clause-asked
returns-clause-asked g c =
    let first = c.in_ok-steered.ensures in
    let threads = c.run_threads-helms.ensures in
    let rest = c.finish.ensures in
    let ends = c.finish.new.pens in
    let all = below_eight (λ w. WasPassed (g.G.Gate.passed c.args.gate.now w) 0 (count g.K.Naming.script w))
    (asked_of_all (g.G.Gate.passed c.args.gate.now 0) (g.G.Gate.passed c.args.gate.now 0) _ _ _ _ first.p0 (rest.p0 ∙ ends.p0.all) (means_itself (g.G.Gate.passed c.args.gate.now 0)) threads.asked0 ∣ rest.asked0 ∣₁)
    (asked_of_all (g.G.Gate.passed c.args.gate.now 1) (g.G.Gate.passed c.args.gate.now 1) _ _ _ _ first.p1 (rest.p1 ∙ ends.p1.all) (means_itself (g.G.Gate.passed c.args.gate.now 1)) threads.asked1 ∣ rest.asked1 ∣₁)
    (asked_of_all (g.G.Gate.passed c.args.gate.now 2) (g.G.Gate.passed c.args.gate.now 2) _ _ _ _ first.p2 (rest.p2 ∙ ends.p2.all) (means_itself (g.G.Gate.passed c.args.gate.now 2)) threads.asked2 ∣ rest.asked2 ∣₁)
    (asked_of_all (g.G.Gate.passed c.args.gate.now 3) (g.G.Gate.passed c.args.gate.now 3) _ _ _ _ first.p3 (rest.p3 ∙ ends.p3.all) (means_itself (g.G.Gate.passed c.args.gate.now 3)) threads.asked3 ∣ rest.asked3 ∣₁)
    (asked_of_all (g.G.Gate.passed c.args.gate.now 4) (g.G.Gate.passed c.args.gate.now 4) _ _ _ _ first.p4 (rest.p4 ∙ ends.p4.all) (means_itself (g.G.Gate.passed c.args.gate.now 4)) threads.asked4 ∣ rest.asked4 ∣₁)
    (asked_of_all (g.G.Gate.passed c.args.gate.now 5) (g.G.Gate.passed c.args.gate.now 5) _ _ _ _ first.p5 (rest.p5 ∙ ends.p5.all) (means_itself (g.G.Gate.passed c.args.gate.now 5)) threads.asked5 ∣ rest.asked5 ∣₁)
    (asked_of_all (g.G.Gate.passed c.args.gate.now 6) (g.G.Gate.passed c.args.gate.now 6) _ _ _ _ first.p6 (rest.p6 ∙ ends.p6.all) (means_itself (g.G.Gate.passed c.args.gate.now 6)) threads.asked6 ∣ rest.asked6 ∣₁)
    (asked_of_all (g.G.Gate.passed c.args.gate.now 7) (g.G.Gate.passed c.args.gate.now 7) _ _ _ _ first.p7 (rest.p7 ∙ ends.p7.all) (means_itself (g.G.Gate.passed c.args.gate.now 7)) threads.asked7 ∣ rest.asked7 ∣₁)
    in
    IfOk-weaker _ _ _ (λ r _. all) c.settle_steered.ensures.script
