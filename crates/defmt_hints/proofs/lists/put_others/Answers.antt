use Rattle.std.proofs.Common.{ℕ, List, ◌+◌, ◌++◌, codes, drop, get_or}
use Rattle.defmt_hints.specs.Printed.{printed_byte}
use Rattle.defmt_hints.proofs.Chains.{full_front, full_behind, pending_end, pending_full, pending_step, written_two}
use Rattle.defmt_hints.proofs.Elements.{others_at, others_over}
use Rattle.defmt_hints.specs.Lists.{others_text}
use Rattle.defmt_hints.proofs.lists.put_others.Goals as goal

pub returns-in_err-parted : goal.returns-in_err-parted
returns-in_err-parted c =
    let f : ℕ → List ℕ = printed_byte c.args.hint in
    rw c.from_residual.ensures (pending_full (codes ", " ++ f (get_or c.args.others.now c.loop-byte.byte-index 0)) (others_text f (drop (c.loop-byte.byte-index + 1) c.args.others.now)) (others_at f c.args.others.now c.loop-byte.byte-index c.loop-byte-test.true) c.loop-byte.invariant
    (full_front _ _ _ (codes ", ") (f (get_or c.args.others.now c.loop-byte.byte-index 0)) c.in_err-parted.ensures))

pub returns-in_err-end : goal.returns-in_err-end
returns-in_err-end c =
    let f : ℕ → List ℕ = printed_byte c.args.hint in
    rw c.from_residual-in_err-end.ensures (pending_full (codes ", " ++ f (get_or c.args.others.now c.loop-byte.byte-index 0)) (others_text f (drop (c.loop-byte.byte-index + 1) c.args.others.now)) (others_at f c.args.others.now c.loop-byte.byte-index c.loop-byte-test.true) c.loop-byte.invariant
    (full_behind c.loop-byte.out c.put.new.out c.put_byte.new.out c.loop-byte.end c.in_ok-parted.parted (codes ", ") (f (get_or c.args.others.now c.loop-byte.byte-index 0)) c.loop-byte.invariant.within c.in_ok-parted.ensures c.in_err-end.ensures))

pub loop-byte-preserved : goal.loop-byte-preserved
loop-byte-preserved c =
    let f : ℕ → List ℕ = printed_byte c.args.hint in
    pending_step (codes ", " ++ f (get_or c.args.others.now c.loop-byte.byte-index 0)) (others_text f (drop (c.loop-byte.byte-index + 1) c.args.others.now)) (others_at f c.args.others.now c.loop-byte.byte-index c.loop-byte-test.true) c.loop-byte.invariant
    (written_two c.loop-byte.out c.put.new.out c.put_byte.new.out c.loop-byte.end c.in_ok-parted.parted c.in_ok-end.end (codes ", ") (f (get_or c.args.others.now c.loop-byte.byte-index 0)) c.in_ok-parted.ensures c.in_ok-end.ensures)

pub returns : goal.returns
returns c = pending_end (others_over (printed_byte c.args.hint) c.args.others.now c.loop-byte.byte-index c.loop-byte-test.false) c.loop-byte.invariant
