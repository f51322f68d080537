use Rattle.std.proofs.Common.{◌≤◌, ◌++◌, List, ℕ, length, take, refl, sym, ◌∙◌, subst, arith}
use Rattle.std.proofs.lemmas.List.{append-nil, take_all}
use Rattle.rzcobs_core.specs.Encodes.{Gathers}
use Rattle.rzcobs_core.proofs.Behind.{both_written, nothing_written}
use Rattle.rzcobs_core.proofs.Gathering.{room_for_two}
use Rattle.rzcobs_core.proofs.Several.{few_encode, one_behind, room_there}
use Rattle.rzcobs_core.proofs.encoder.Encoder.gather_all.Goals as goal

pub loop-byte-init : goal.loop-byte-init
loop-byte-init c =
    let s = c.args.self.now in
    record {
      same_buffer = refl;
      more = λ message e. subst (λ (m : List ℕ). Gathers s.out.now s.stored s.count s.zeros m) (sym (append-nil message)) e.gathers;
      count = c.requires.none;
      size = refl;
      behind = nothing_written _ _;
    }

pub gather-requires-clause-encodes : goal.gather-requires-clause-encodes
gather-requires-clause-encodes c =
    let m = c.requires.room.0 in
    let few : c.loop-byte.self.count ≤ 6 = omega (arith, c.loop-byte.invariant.count, c.requires.few, c.loop-byte-test.true) in
    (m ++ take c.loop-byte.byte-index c.args.bytes.now, few_encode _ _ _ _ _ (c.loop-byte.invariant.more m c.requires.room.1) few)

pub gather-requires-clause-room : goal.gather-requires-clause-room
gather-requires-clause-room c =
    let m = c.requires.room.0 in
    omega (
      arith,
      c.loop-byte.invariant.size,
      room_for_two _ _ _ _ _ (c.loop-byte.invariant.more m c.requires.room.1) (length c.args.self.now.out.now)
          (room_there m c.args.bytes.now c.loop-byte.byte-index _ c.loop-byte-test.true c.requires.room.2),
    )

pub loop-byte-preserved : goal.loop-byte-preserved
loop-byte-preserved c =
    let i = c.loop-byte.byte-index in
    let e = c.gather.new.self in
    let few : c.loop-byte.self.count ≤ 6 = omega (arith, c.loop-byte.invariant.count, c.requires.few, c.loop-byte-test.true) in
    record {
      same_buffer = c.gather.ensures.same_buffer ∙ c.loop-byte.invariant.same_buffer;
      more = λ message held. subst (λ (m : List ℕ). Gathers e.out.now e.stored e.count e.zeros m) (one_behind message c.args.bytes.now i c.loop-byte-test.true)
          (c.gather.ensures.one_more _ (few_encode _ _ _ _ _ (c.loop-byte.invariant.more message held) few));
      count = omega (arith, c.gather.ensures.count, c.loop-byte.invariant.count);
      size = c.gather.ensures.length ∙ c.loop-byte.invariant.size;
      behind = both_written _ _ _ _ _ _ c.loop-byte.invariant.behind c.gather.ensures.behind;
    }

pub returns-clause-more : goal.returns-clause-more
returns-clause-more c message e =
    let s = c.loop-byte.self in
    subst (λ (l : List ℕ). Gathers s.out.now s.stored s.count s.zeros (message ++ l)) (take_all c.loop-byte.byte-index c.args.bytes.now (omega arith)) (c.loop-byte.invariant.more message e)
