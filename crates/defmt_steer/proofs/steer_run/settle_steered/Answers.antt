use Rattle.std.proofs.Common.{ap, ◌∙◌, arith}
use Rattle.dl_io.specs.Buffer.{Buffer}
use Rattle.defmt_steer.proofs.Hosted.{steered_ends}
use Rattle.defmt_steer.proofs.steer_run.settle_steered.Goals as goal

pub returns-clause-run : goal.returns-clause-run
returns-clause-run g c =
    let made = c.in_ok-frames.ensures in
    let parts = c.into_parts-reads.ensures in
    steered_ends g.K.Naming.script c.args.script g.N.Hosting.plan c.args.turns (g.H.Up.UpEnd.view c.args.up) (g.H.Down.DownEnd.view c.args.down)
    _ g.N.Hosting.down _ _ _ _ _ c.args.host.captured.room g.N.Hosting.room
    c.requires.script c.requires.plan c.requires.kept c.requires.all
    (record {
      split = made.splits.0;
      sent = made.frames.0;
      got = made.frames.1 ∙ parts.got;
      whole = made.frames.2;
      freed = made.freed;
      held = omega (arith, ap (λ (b : Buffer). b.room) parts.captured, parts.room);
      ends = c.requires.rest;
    })
    c.requires.room c.requires.early
    parts.sent (made.splits.1 ∙ parts.order_split) c.requires.down made.orders.0 made.orders.1 made.orders.2
