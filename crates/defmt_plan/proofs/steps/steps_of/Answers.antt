use Rattle.std.proofs.Common.{◌≡◌, length, drop_of_length-le, ap, arith}
use Rattle.defmt_grammar.specs.Slots.{slots_of}
use Rattle.defmt_plan.proofs.Striding.{made_all}
use Rattle.defmt_plan.proofs.steps.steps_of.Goals as goal

pub returns-then-next-slots : goal.returns-then-next-slots
returns-then-next-slots c =
    let n : length (slots_of c.args.all.now) ≡ c.loop-piece.next.position = omega (arith, ap length c.slots.ensures.slots) in
    made_all c.loop-piece.steps.items c.loop-piece.next.position _ c.args.pieces.now c.args.all.now c.loop-piece.invariant (drop_of_length-le c.args.pieces.now c.loop-piece-test.false) n
