use Rattle.std.proofs.Common.{◌≡◌, ◌≢◌, ◌≤◌, ◌+◌, ◌/◌, ◌++◌, List, ℕ, length, take, sym, subst, arith, length-append}
use Rattle.std.proofs.lemmas.List.{take_all, take_more, length-take-le}
use Rattle.rzcobs_core.specs.Encodes.{Gathers, Encodes}
use Rattle.rzcobs_core.proofs.Behind.{both_written}
use Rattle.rzcobs_core.proofs.Gathering.{room_for_one}
use Rattle.rzcobs_core.proofs.Several.{few_encode}
use Rattle.rzcobs_core.proofs.encoder.Encoder.put_some.Goals as goal

pub returns-then-self-gt0-clause-more : goal.returns-then-self-gt0-clause-more
returns-then-self-gt0-clause-more c message e =
    let s = c.put.new.self in
    subst (λ (l : List ℕ). Encodes s.out.now s.stored s.count s.zeros (message ++ l)) (sym (take_more c.args.bytes.now 0 0 c.requires.some)) (c.put.ensures.one_more message e)

pub returns-then-bytes-lt7-clause-more : goal.returns-then-bytes-lt7-clause-more
returns-then-bytes-lt7-clause-more c message e =
    let s = c.gather_all.new.self in
    let few : s.count ≤ 6 = omega (arith, c.gather_all.ensures.count) in
    few_encode _ _ _ _ _
    (subst (λ (l : List ℕ). Gathers s.out.now s.stored s.count s.zeros (message ++ l)) (sym (take_all (length c.args.bytes.now) c.args.bytes.now (omega arith))) (c.gather_all.ensures.more message e))
    few

pub close-requires-clause-gathers : goal.close-requires-clause-gathers
close-requires-clause-gathers c = (c.requires.room.0 ++ take 7 c.args.bytes.now, c.gather_all-2.ensures.more c.requires.room.0 c.requires.room.1)

pub close-requires-clause-room : goal.close-requires-clause-room
close-requires-clause-room c =
    let s = c.gather_all-2.new.self in
    let m = c.requires.room.0 in
    let seven : length (take 7 c.args.bytes.now) ≡ 7 = length-take-le 7 c.args.bytes.now (omega arith) in
    let some : s.count ≢ 0 = omega (arith, seven, c.gather_all-2.ensures.count) in
    let bound : length (m ++ take 7 c.args.bytes.now) + (length (m ++ take 7 c.args.bytes.now) + 6) / 7 ≤ length s.out.now =
    omega (arith, seven, length-append m (take 7 c.args.bytes.now), c.requires.room.2, c.gather_all-2.ensures.length) in
    room_for_one _ _ _ _ _ (c.gather_all-2.ensures.more m c.requires.room.1) (length s.out.now) some bound

pub returns-clause-more : goal.returns-clause-more
returns-clause-more c message e = c.close.ensures.same _ (c.gather_all-2.ensures.more message e)

pub returns-clause-behind : goal.returns-clause-behind
returns-clause-behind c = both_written _ _ _ _ _ _ c.gather_all-2.ensures.behind c.close.ensures.behind
