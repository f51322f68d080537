use Rattle.std.proofs.Common.{◌≡◌, ◌≤◌, ◌+◌, ◌*◌, ◌∙◌, List, ap, arith, length}
use Rattle.defmt_grammar.specs.declared.piece.Piece.{Piece}
use Rattle.defmt_intern.specs.Body.{body_of}
use Rattle.defmt_intern.specs.declared.parsed.Parsed.{Parsed}
use Rattle.defmt_values.specs.Scan.{own_in}
use Rattle.defmt_eager.proofs.Whole.{none_there, text_short}
use Rattle.defmt_eager.specs.Line.{printed_limit}
use Rattle.defmt_eager.specs.Show.{pieces_in}
use Rattle.defmt_eager.proofs.wide.is_short.Goals as goal

pub returns-in_default : goal.returns-in_default
returns-in_default c = omega (arith, none_there c.args.table.now.entries c.args.index c.args.args.now c.in_default.ensures)

pub returns-then-saturating_add-le-PRINTED_LIMIT : goal.returns-then-saturating_add-le-PRINTED_LIMIT
returns-then-saturating_add-le-PRINTED_LIMIT c =
    let t = c.args.table.now.entries in
    let e = c.in-Some.entry.now in
    let pieces : List Piece = c.pieces_of-pieces.result.now in
    let own : pieces ≡ pieces_in (own_in (body_of t.language e)) = c.pieces_of-pieces.ensures ∙ ap (λ (body : Parsed). pieces_in (own_in body)) c.in-Some.ensures.1 in
    let low : length pieces * c.longest.result + length e.text ≤ printed_limit = omega arith in
    text_short t c.args.index e c.args.args.now c.longest.result c.in-Some.ensures.0 (c.longest.ensures t) (rw own at low)
