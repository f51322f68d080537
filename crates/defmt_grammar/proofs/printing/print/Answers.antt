use Rattle.std.proofs.Common.{sym, ◌∙◌, ap, ◌++◌, ◌∷◌, [], take}
use Rattle.std.proofs.lemmas.List.{take_more}
use Rattle.defmt_grammar.specs.declared.piece.Piece.{Piece}
use Rattle.defmt_grammar.specs.Print.{printed, piece_text}
use Rattle.defmt_grammar.proofs.PrintLaws.{printed_push}
use Rattle.defmt_grammar.proofs.printing.print.Goals as goal

pub loop-piece-preserved : goal.loop-piece-preserved
loop-piece-preserved c =
    let xs = c.as_slice-piece-items.result.now in
    let i = c.loop-piece.piece-index in
    let p = c.piece-item.result in
    c.in_ok-print_piece.ensures ∙ ap (λ t. t ++ piece_text p) c.loop-piece.invariant
    ∙ sym (ap printed (take_more xs i p c.loop-piece-test.true ∙ ap (λ (q : Piece). take i xs ++ q ∷ []) (sym c.piece-item.is)) ∙ printed_push (take i xs) p)
