use Rattle.std.proofs.Common.{None, arith, codes}
use Rattle.defmt_eager.proofs.Parts.{narrow_two, placed_length, puts_of, unplaced_wide}
use Rattle.defmt_eager.proofs.StampParts.{some_stamp}
use Rattle.defmt_eager.proofs.Utf8.{utf8_space}
use Rattle.defmt_eager.specs.Answers.{Placed}
use Rattle.defmt_eager.specs.Line.{IsLong}
use Rattle.defmt_eager.specs.Show.{eager_text}
use Rattle.defmt_encode.specs.Carry.{stamp_args}
use Rattle.defmt_intern.specs.Stamp.{stamp_of}
use Rattle.defmt_eager.proofs.stamps.put_stamp.Goals as goal

pub overflow_sub-end : goal.overflow_sub-end
overflow_sub-end c = omega (arith, (placed_length c.requires c.in_ok-end.ensures).0)

pub returns-then-end-at-gt-PRINTED_LIMIT : goal.returns-then-end-at-gt-PRINTED_LIMIT
returns-then-end-at-gt-PRINTED_LIMIT c =
    let t = c.args.table.now.entries in
    let text = eager_text t c.in-Some.index (stamp_args c.args.stamp) in
    let written : Placed c.args.out.now c.args.at c.put_stamp_pieces.new.out c.in_ok-end.end text = rw c.own_pieces.ensures at c.in_ok-end.ensures in
    let long : IsLong text = omega (arith, c.if-end-at-gt-PRINTED_LIMIT.true, (placed_length c.requires written).0) in
    some_stamp t (stamp_args c.args.stamp) (stamp_of t) c.in-Some.index None c.args.out.now c.args.at c.put_stamp_pieces.new.out c.in-Some.ensures (unplaced_wide _ long c.requires written)

pub returns : goal.returns
returns c =
    let t = c.args.table.now.entries in
    let text = eager_text t c.in-Some.index (stamp_args c.args.stamp) in
    let written : Placed c.args.out.now c.args.at c.put_stamp_pieces.new.out c.in_ok-end.end text = rw c.own_pieces.ensures at c.in_ok-end.ensures in
    some_stamp t (stamp_args c.args.stamp) (stamp_of t) c.in-Some.index c.put.result c.args.out.now c.args.at c.put.new.out c.in-Some.ensures
    (narrow_two (IsLong text) c.put.result c.put.new.out text (codes " ") c.requires
    (record { placed = written; narrow = λ w. omega (arith, w, c.if-end-at-gt-PRINTED_LIMIT.false, (placed_length c.requires written).0) })
    (puts_of c.put.result _ _ _ _ utf8_space c.put.ensures))
