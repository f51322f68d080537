use Rattle.std.proofs.Common.{List, ℕ, [], ap, sym, arith, append-nil}
use Rattle.rtt_ring.specs.JournalView.{name_of, traffic_of}
use Rattle.rtt_ring.specs.Plain.{down_view}
use Rattle.rtt_ring.proofs.Kept.{length_sent, look_down_kept, take_found, take_view, up_same}
use Rattle.rtt_ring.proofs.plain.PlainRingDownEnd.look.Goals as goal

pub invariant_of-self : goal.invariant_of-self
invariant_of-self c = record { kept = look_down_kept _ _ _ _ _ _ _ _ _ c.args.self.now.kept _ c.look_down.ensures.traffic }

pub returns-clause-looked : goal.returns-clause-looked
returns-clause-looked c =
    let s = c.args.self.now in
    let j = c.look_down.new.self in
    take_view _ _ _ _ _ _ _ _ _ s.kept (name_of s.journal) (name_of j) (traffic_of j) (down_view (name_of j) s.size (traffic_of j)) [] c.look_down.ensures.name c.look_down.ensures.traffic
    (ap (λ (l : List ℕ). record (down_view (name_of j) s.size (traffic_of j)) { got = l }) (sym (append-nil (traffic_of j).got)))

pub returns-clause-found : goal.returns-clause-found
returns-clause-found c =
    let s = c.args.self.now in
    let j = c.look_down.new.self in
    let f = take_found _ _ _ _ _ _ _ _ _ s.kept (name_of s.journal) (name_of j) (traffic_of j) (down_view (name_of j) s.size (traffic_of j)) [] c.look_down.ensures.name c.look_down.ensures.traffic
    (ap (λ (l : List ℕ). record (down_view (name_of j) s.size (traffic_of j)) { got = l }) (sym (append-nil (traffic_of j).got))) in
    let e = length_sent _ _ _ _ _ _ _ _ _ s.kept in
    omega arith

pub returns-clause-exact : goal.returns-clause-exact
returns-clause-exact c =
    let e = length_sent _ _ _ _ _ _ _ _ _ c.args.self.now.kept in omega arith

pub returns-clause-up : goal.returns-clause-up
returns-clause-up c = up_same _ _ _ _ _ _ c.look_down.ensures.name c.look_down.ensures.traffic
