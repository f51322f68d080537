use Rattle.std.proofs.Common.{◌≡◌, ◌∙◌, ◌++◌, ℕ, ap, length, take, drop, arith, length-take}
use Rattle.std.proofs.lemmas.List.{length-take-le, take_at, drop_at}
use Rattle.rtt_ring.specs.declared.journal.Traffic.{Traffic}
use Rattle.rtt_ring.specs.Image.{part}
use Rattle.rtt_ring.specs.JournalView.{traffic_of}
use Rattle.rtt_ring.proofs.Kept.{first_waits, length_sent, look_down_kept, take_found, take_view, up_same}
use Rattle.rtt_ring.proofs.plain.PlainRingDownEnd.take.Goals as goal

pub invariant_of-self : goal.invariant_of-self
invariant_of-self c = record { kept = look_down_kept _ _ _ _ _ _ _ _ _ c.args.self.now.kept _ c.look_down.ensures.traffic }

pub release-requires-clause-found : goal.release-requires-clause-found
release-requires-clause-found c =
    let t = traffic_of c.args.self.now.journal in
    let n = c.min-count.result in
    let got : length (traffic_of c.look_down.new.self).got ≡ length t.got = ap (λ (x : Traffic). length x.got) c.look_down.ensures.traffic in
    let found : (traffic_of c.look_down.new.self).found ≡ length t.sent = ap (λ (x : Traffic). x.found) c.look_down.ensures.traffic in
    let sent = length_sent _ _ _ _ _ _ _ _ _ c.args.self.now.kept in
    let few = length-take n (c.copy_to.new.out ++ drop n c.args.buf.now) in
    omega arith

pub returns-clause-took : goal.returns-clause-took
returns-clause-took c = take_view _ _ _ _ _ _ _ _ _ c.args.self.now.kept _ _ _ _ _ c.look_down.ensures.name c.look_down.ensures.traffic c.release.ensures.down

pub returns-clause-count : goal.returns-clause-count
returns-clause-count c =
    let found = take_found _ _ _ _ _ _ _ _ _ c.args.self.now.kept _ _ _ _ _ c.look_down.ensures.name c.look_down.ensures.traffic c.release.ensures.down in
    let sent = length_sent _ _ _ _ _ _ _ _ _ c.args.self.now.kept in
    omega arith

pub returns-clause-behind : goal.returns-clause-behind
returns-clause-behind c =
    let n = c.min-count.result in
    let many : length (take n c.args.buf.now) ≡ n = length-take-le n c.args.buf.now (omega arith) in
    drop_at c.copy_to.new.out (drop n c.args.buf.now) n (c.copy_to.auto.out ∙ many)

pub returns-clause-exact : goal.returns-clause-exact
returns-clause-exact c = take_found _ _ _ _ _ _ _ _ _ c.args.self.now.kept _ _ _ _ _ c.look_down.ensures.name c.look_down.ensures.traffic c.release.ensures.down

pub returns-clause-bytes : goal.returns-clause-bytes
returns-clause-bytes c =
    let s = c.args.self.now in
    let n = c.min-count.result in
    let t = traffic_of s.journal in
    let out = c.copy_to.new.out in
    let many : length (take n c.args.buf.now) ≡ n = length-take-le n c.args.buf.now (omega arith) in
    let long : length out ≡ n = c.copy_to.auto.out ∙ many in
    take_at out (drop n c.args.buf.now) n long
    ∙ c.copy_to.ensures
    ∙ ap (λ (x : Traffic). part s.image.items s.size (length x.got) (length (take n c.args.buf.now))) c.look_down.ensures.traffic
    ∙ ap (λ (m : ℕ). part s.image.items s.size (length t.got) m) many
    ∙ first_waits _ _ _ _ _ _ _ _ _ s.kept n (omega arith)

pub returns-clause-up : goal.returns-clause-up
returns-clause-up c = c.release.ensures.up ∙ up_same _ _ _ _ _ _ c.look_down.ensures.name c.look_down.ensures.traffic
