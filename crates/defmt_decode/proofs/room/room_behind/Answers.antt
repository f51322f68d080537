use Rattle.std.proofs.Common.{take, length-take, ap, ◌∙◌, arith}
use lib.Seq.{take-take, take-append-le}
use Rattle.defmt_decode.proofs.room.room_behind.Goals as goal

pub returns-in_ok-resize-clause-front : goal.returns-in_ok-resize-clause-front
returns-in_ok-resize-clause-front c =
    let at = c.args.at in
    let old = c.args.text.now.items in
    let many = c.max.result in
    ap (take at) c.in_ok-resize.ensures.items ∙ take-append-le at (take many old) _ (omega (arith, length-take many old)) ∙ take-take at many old (omega arith)
