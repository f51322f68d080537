use Rattle.std.proofs.Common.{◌-◌, ℕ, List, arith, subst, take}
use Rattle.defmt_forms.specs.Placed.{Placed}
use Rattle.defmt_forms.proofs.Placed.{color_placed}
use Rattle.defmt_forms.proofs.placing.put_color.Goals as goal

pub returns : goal.returns
returns c =
    color_placed c.args.template.now c.args.text.now c.args.at c.args.size (omega (arith, c.requires.room)) c.args.stamp c.args.front
    c.requires.parts.0 c.requires.parts.1 c.requires.parts.2 c.put_piece-end.new.text c.put_front-end.new.text c.put_end.new.text
    c.put_piece-end.result c.put_front-end.result c.put_end.result c.requires.quiet c.put_piece-end.ensures
    (subst (λ (l : List ℕ). Placed c.put_piece-end.new.text c.put_piece-end.result c.put_front-end.new.text c.put_front-end.result (take (c.args.size - c.args.front) l))
    c.block_at-own.ensures c.put_front-end.ensures.placed)
    c.put_end.ensures
