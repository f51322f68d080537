use Rattle.std.proofs.Common.{List}
use Rattle.defmt_eager.proofs.Appends.{pieces_none, pieces_step}
use Rattle.defmt_eager.proofs.Parts.{pending_end, pending_full, pending_none, pending_step}
use Rattle.defmt_eager.specs.Show.{Shown, piece_text, pieces_text, shows}
use Rattle.defmt_encode.specs.Carry.{stamp_args}
use Rattle.defmt_grammar.specs.declared.hint.Hint.TheVariants as hints
use Rattle.defmt_eager.proofs.stamps.put_stamp_pieces.Goals as goal

pub each-init : goal.each-init
each-init c = pending_none c.args.out.now c.args.at (pieces_text hints.Plain c.args.pieces.now (shows c.args.table.now.entries (stamp_args c.args.stamp))) c.requires

pub returns-in_err-end : goal.returns-in_err-end
returns-in_err-end c =
    let all : List Shown = shows c.args.table.now.entries (stamp_args c.args.stamp) in
    rw c.from_residual.ensures (pending_full (piece_text hints.Plain c.in-Some.piece.now all) (pieces_text hints.Plain c.in-Some.more.now all)
    (pieces_step hints.Plain c.each.rest.now c.in-Some.more.now c.in-Some.piece.now all c.in-Some.ensures) c.each.invariant (c.in_err-end.ensures c.args.table.now.entries))

pub each-preserved : goal.each-preserved
each-preserved c =
    let all : List Shown = shows c.args.table.now.entries (stamp_args c.args.stamp) in
    pending_step (piece_text hints.Plain c.in-Some.piece.now all) (pieces_text hints.Plain c.in-Some.more.now all)
    (pieces_step hints.Plain c.each.rest.now c.in-Some.more.now c.in-Some.piece.now all c.in-Some.ensures) c.each.invariant (c.in_ok-end.ensures c.args.table.now.entries)

pub returns : goal.returns
returns c =
    pending_end (pieces_none hints.Plain c.each.rest.now (shows c.args.table.now.entries (stamp_args c.args.stamp)) c.in_default.ensures) c.each.invariant
