use Rattle.std.proofs.Common.{ap, ◌∙◌}
use Rattle.rtt_down.proofs.Turned.{kept_first, steers_none}
use Rattle.rtt_ring.specs.Views.{Down, Up}
use Rattle.rtt_down.proofs.bridge.Bridge.start.Goals as goal

pub invariant_of-result : goal.invariant_of-result
invariant_of-result g c =
    let u : Up = g.U.UpEnd.view c.args.up in
    let d : Down = g.D.DownEnd.view c.args.down in
    let s = c.in_ok-stores.stores in
    let made = c.in_ok-stores.ensures in
    let up = c.requires.up in
    let down = c.requires.down in
    record {
      kept = kept_first c.args.script u d s.course (ap (λ (x : Up). x.sent) up) (ap (λ (x : Up). x.staged) up) (ap (λ (x : Down). x.got) down) (ap (λ (x : Down). x.looks) down) (ap (λ (x : Down). x.found) down) made.steers made.turns
          (made.rings.0 ∙ c.of-split.ensures) (made.rings.1 ∙ c.of-orders.ensures);
      steers = steers_none c.args.script d s.course (ap (λ (x : Down). x.got) down) made.steers;
      sites_are = made.sites;
      pace_is = c.requires.pace;
      message_size = made.message;
      frame_size = made.frame;
    }
