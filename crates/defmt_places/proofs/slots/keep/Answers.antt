use Rattle.std.proofs.Common.{List, ℕ, ◌++◌, ◌∙◌, ap, arith}
use Rattle.defmt_places.proofs.InSlots.{placed}
use Rattle.defmt_places.proofs.slots.keep.Goals as goal

pub returns-clause-ok : goal.returns-clause-ok
returns-clause-ok c =
    placed c.args.slots.now.items c.grow.new.slots.items c.args.index c.push_str.new.self c.args.place.now c.grow.ensures.kept
    (omega (arith, c.in_ok-grow.ensures.room))
    (c.in-Ok.ensures.ok ∙ ap (λ (t : List ℕ). t ++ c.args.place.now) c.new-copy.ensures)
