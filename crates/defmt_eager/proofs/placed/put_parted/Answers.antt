use Rattle.std.proofs.Common.{◌≡◌, ◌-◌, ◌++◌, ℕ, List, length, Some, arith, inl, inr}
use Rattle.defmt_eager.proofs.Fronts.{front_most, width_now}
use Rattle.defmt_eager.proofs.Parts.{placed_length, puts_two, unplaced_behind, unplaced_wide}
use Rattle.defmt_eager.specs.Answers.{Placed, PlacedNarrow}
use Rattle.defmt_eager.specs.Line.{IsLong, front_text, level_at, stamp_text}
use Rattle.defmt_eager.specs.Show.{eager_text}
use Rattle.defmt_encode.specs.Carry.{stamp_args}
use Rattle.defmt_intern.specs.Stamp.{stamp_of}
use Rattle.defmt_intern.specs.Table.{Map}
use Rattle.defmt_values.specs.Plain.{Vals}
use Rattle.defmt_eager.proofs.placed.put_parted.Goals as goal

abbrev front_at : Map → Vals → ℕ → List ℕ
front_at t stamp index = front_text t (stamp_of t) stamp (level_at t index)

abbrev IsLongStamp : Map → Vals → Type 0
IsLongStamp t stamp = IsLong (stamp_text t (stamp_of t) stamp)

pub returns-in_err-end : goal.returns-in_err-end
returns-in_err-end c =
    let t = c.args.table.now.entries in
    let vs = c.args.stm.now.args in
    let before : PlacedNarrow (IsLongStamp t (stamp_args c.args.stamp)) c.args.out.now c.args.at c.put_front.new.out c.in_ok-start.start (front_at t (stamp_args c.args.stamp) c.args.stm.now.index) = rw c.parts_at.ensures.level at c.in_ok-start.ensures in
    rw c.from_residual-in_err-end.ensures (unplaced_behind (front_at t (stamp_args c.args.stamp) c.args.stm.now.index) (eager_text t c.args.stm.now.index vs) c.requires before.placed (rw c.parts_at.ensures.pieces at c.in_err-end.ensures))

pub overflow_sub-end : goal.overflow_sub-end
overflow_sub-end c =
    let within = (placed_length c.requires c.in_ok-start.ensures.placed).1 in
    omega (arith, (placed_length within c.in_ok-end.ensures).0)

pub returns-then-end-start-gt-PRINTED_LIMIT : goal.returns-then-end-start-gt-PRINTED_LIMIT
returns-then-end-start-gt-PRINTED_LIMIT c =
    let t = c.args.table.now.entries in
    let front = front_at t (stamp_args c.args.stamp) c.args.stm.now.index in
    let text = eager_text t c.args.stm.now.index c.args.stm.now.args in
    let before : PlacedNarrow (IsLongStamp t (stamp_args c.args.stamp)) c.args.out.now c.args.at c.put_front.new.out c.in_ok-start.start front = rw c.parts_at.ensures.level at c.in_ok-start.ensures in
    let behind : Placed c.put_front.new.out c.in_ok-start.start c.put_pieces.new.out c.in_ok-end.end text = rw c.parts_at.ensures.pieces at c.in_ok-end.ensures in
    let long : IsLong text = omega (arith, c.if-end-start-gt-PRINTED_LIMIT.true, (placed_length (placed_length c.requires before.placed).1 behind).0) in
    let whole : Placed c.args.out.now c.args.at c.put_pieces.new.out c.in_ok-end.end (front ++ text) = puts_two (Some c.in_ok-end.end) c.put_pieces.new.out front text c.requires before.placed behind in
    unplaced_wide (front ++ text) (inr long) c.requires whole

pub overflow_sub-start : goal.overflow_sub-start
overflow_sub-start c = omega (arith, (placed_length c.requires c.in_ok-start.ensures.placed).0)

pub front_of-requires-clause-few : goal.front_of-requires-clause-few
front_of-requires-clause-few c =
    let t = c.args.table.now.entries in
    let most = front_most t (stamp_of t) (stamp_args c.args.stamp) _ (width_now c.parts_at.result.0 c.parts_at.ensures.width) (omega (arith, c.in_ok-start.ensures.narrow)) in
    omega (arith, most, (placed_length c.requires c.in_ok-start.ensures.placed).0)

pub returns : goal.returns
returns c =
    let t = c.args.table.now.entries in
    let front = front_at t (stamp_args c.args.stamp) c.args.stm.now.index in
    let text = eager_text t c.args.stm.now.index c.args.stm.now.args in
    let before : PlacedNarrow (IsLongStamp t (stamp_args c.args.stamp)) c.args.out.now c.args.at c.put_front.new.out c.in_ok-start.start front = rw c.parts_at.ensures.level at c.in_ok-start.ensures in
    let behind : Placed c.put_front.new.out c.in_ok-start.start c.put_pieces.new.out c.in_ok-end.end text = rw c.parts_at.ensures.pieces at c.in_ok-end.ensures in
    let size : c.in_ok-start.start - c.args.at ≡ length front = omega (arith, (placed_length c.requires before.placed).0) in (
      (rw c.parts_at.ensures.level at c.front_of.ensures) (stamp_args c.args.stamp) size,
      record {
        placed = puts_two (Some c.in_ok-end.end) c.put_pieces.new.out front text c.requires before.placed behind;
        narrow = λ w. elim w [
          | inl stamp ↦ before.narrow stamp
          | inr long ↦ omega (arith, long, c.if-end-start-gt-PRINTED_LIMIT.false, (placed_length (placed_length c.requires before.placed).1 behind).0)
        ];
      },
    )
