use Rattle.std.proofs.Common.{◌≡◌, ◌∙◌, ◌+◌, ap, ℕ, length}
use Rattle.rtt_ring.specs.Account.{capped}
use Rattle.rtt_ring.proofs.Kept.{down_same, release_kept, up_same}
use Rattle.rtt_ring.proofs.plain.PlainRing.release.Goals as goal

pub invariant_of-self : goal.invariant_of-self
invariant_of-self c =
    let s = c.args.self.now in
    let n = length c.args.bytes.now in
    let count : c.saturating_add-self.result ≡ capped (s.got_len + n) = c.saturating_add-self.ensures ∙ ap (λ (k : ℕ). capped (s.got_len + k)) c.from.ensures in
    record { kept = release_kept _ _ _ _ _ _ _ _ _ s.kept c.mark.new.image.items c.args.bytes.now c.saturating_add-self.result _ c.take.ensures.traffic c.requires.fits c.requires.bytes c.requires.found count c.mark.ensures }

pub returns-clause-up : goal.returns-clause-up
returns-clause-up c = up_same _ _ _ _ _ _ c.take.ensures.name c.take.ensures.traffic

pub returns-clause-down : goal.returns-clause-down
returns-clause-down c = down_same _ _ _ _ _ c.take.ensures.name c.take.ensures.traffic
