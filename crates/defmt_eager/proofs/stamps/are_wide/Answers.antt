use Rattle.std.proofs.Common.{◌≡◌, ◌+◌, ◌∷◌, ℕ, List, length, sym, ap, arith, length-append}
use Rattle.std.proofs.lemmas.Bool.{le-ltb, lt-ltb}
use Rattle.defmt_eager.proofs.Appends.{pieces_none, pieces_step}
use Rattle.defmt_eager.specs.Line.{printed_limit}
use Rattle.defmt_eager.specs.Show.{Shown, piece_text, pieces_text, shows}
use Rattle.defmt_encode.specs.Carry.{stamp_args}
use Rattle.defmt_grammar.specs.declared.hint.Hint.TheVariants as hints
use Rattle.defmt_grammar.specs.declared.piece.Piece.{Piece}
use Rattle.defmt_eager.proofs.stamps.are_wide.Goals as goal

-- the length of the pieces that are still to come, by that of the next one
step : (rest more : List Piece) (piece : Piece) (all : List Shown) (count : ℕ) → rest ≡ piece ∷ more → count ≡ length (piece_text hints.Plain piece all)
    → length (pieces_text hints.Plain rest all) ≡ count + length (pieces_text hints.Plain more all)
step rest more piece all count e n =
    omega (arith, ap length (pieces_step hints.Plain rest more piece all e), length-append (piece_text hints.Plain piece all) (pieces_text hints.Plain more all), n)

pub each-preserved : goal.each-preserved
each-preserved c = λ t.
    omega (arith, c.each.invariant t, step c.each.rest.now c.in-Some.more.now c.in-Some.piece.now (shows t (stamp_args c.args.stamp)) c.piece_length-count.result c.in-Some.ensures (c.piece_length-count.ensures t))

pub returns-then-count-left : goal.returns-then-count-left
returns-then-count-left c = λ t.
    sym (lt-ltb printed_limit (length (pieces_text hints.Plain c.args.pieces.now (shows t (stamp_args c.args.stamp))))
    (omega (arith, c.each.invariant t, step c.each.rest.now c.in-Some.more.now c.in-Some.piece.now (shows t (stamp_args c.args.stamp)) c.piece_length-count.result c.in-Some.ensures (c.piece_length-count.ensures t))))

pub returns : goal.returns
returns c = λ t.
    sym (le-ltb printed_limit (length (pieces_text hints.Plain c.args.pieces.now (shows t (stamp_args c.args.stamp))))
    (omega (arith, c.each.invariant t, ap length (pieces_none hints.Plain c.each.rest.now (shows t (stamp_args c.args.stamp)) c.in_default.ensures))))
