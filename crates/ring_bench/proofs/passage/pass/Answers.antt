use Rattle.std.proofs.Common.{rules, ◌≡◌, ◌*◌, length, sym, ap, ◌∙◌}
use Rattle.ring_bench.specs.Frames.{frames}
use Rattle.ring_bench.proofs.Runs.{frames_long, all_got, not_refused}
use Rattle.ring_bench.proofs.passage.pass.Goals as goal

pub returns-in-Ok-clause-got : goal.returns-in-Ok-clause-got
returns-in-Ok-clause-got g c =
    let sent : c.in-Ok.settled.sent ≡ frames c.args.count c.args.frame.now = search rules in
    let got : length c.in-Ok.settled.got ≡ c.args.count * length c.args.frame.now = search rules in
    all_got _ _ _ c.in-Ok.ensures.rest.0 (got ∙ sym (frames_long c.args.count c.args.frame.now) ∙ ap length (sym sent))

pub returns-in-Ok-clause-refused : goal.returns-in-Ok-clause-refused
returns-in-Ok-clause-refused g c = not_refused _ _ _ c.in_ok-up.ensures.refused tt tt

pub returns-clause-refused : goal.returns-clause-refused
returns-clause-refused g c = not_refused _ _ _ c.in_ok-up.ensures.refused tt tt
