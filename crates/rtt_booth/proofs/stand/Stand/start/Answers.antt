use Rattle.std.proofs.Common.{ap, arith}
use Rattle.rtt_booth.proofs.Next.{current_first, kept_first, no_counts}
use Rattle.rtt_ring.specs.Views.{Up}
use Rattle.rtt_booth.proofs.stand.Stand.start.Goals as goal

pub invariant_of-result : goal.invariant_of-result
invariant_of-result g c =
    let u : Up = g.U.UpEnd.view c.args.up in
    let own = c.in_ok-own.own in
    let made = c.in_ok-own.ensures in
    let fresh = c.requires.fresh in
    record {
      kept = kept_first own.speech own.said u made.words made.room made.split (ap (λ (x : Up). x.sent) fresh) (ap (λ (x : Up). x.staged) fresh);
      counts = no_counts own.said.words made.words;
      current_is = current_first own.speech own.said.words made.words;
      current_below = omega arith;
      size = made.line;
    }

pub returns-clause-kept : goal.returns-clause-kept
returns-clause-kept g c =
    let u : Up = g.U.UpEnd.view c.args.up in
    let own = c.in_ok-own.own in
    let made = c.in_ok-own.ensures in
    let fresh = c.requires.fresh in
    kept_first own.speech own.said u made.words made.room made.split (ap (λ (x : Up). x.sent) fresh) (ap (λ (x : Up). x.staged) fresh)
