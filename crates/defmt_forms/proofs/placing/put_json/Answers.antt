use Rattle.std.proofs.Common.{◌-◌, ℕ, List, arith, subst, take}
use Rattle.defmt_forms.specs.Placed.{Placed}
use Rattle.defmt_forms.proofs.Placed.{json_placed}
use Rattle.defmt_forms.proofs.placing.put_json.Goals as goal

pub put_piece-end-requires-2 : goal.put_piece-end-requires-2
put_piece-end-requires-2 c = (
  c.requires.blocks.between_is,
  omega (
    arith,
    c.requires.room,
    c.put_piece-end.ensures.long,
    c.put_piece-end.ensures.ends,
    c.requires.blocks.head_is.short,
    c.put_digits-end.ensures.placed.long,
    c.put_digits-end.ensures.few,
  ),
)

pub put_front-end-requires : goal.put_front-end-requires
put_front-end-requires c = (
  c.requires.few.1,
  omega (
    arith,
    c.requires.room,
    c.put_piece-end.ensures.long,
    c.put_piece-end.ensures.ends,
    c.requires.blocks.head_is.short,
    c.put_digits-end.ensures.placed.long,
    c.put_digits-end.ensures.few,
    c.put_piece-end-2.ensures.long,
    c.put_piece-end-2.ensures.ends,
    c.requires.blocks.between_is.short,
  ),
)

pub put_piece-end-requires-3 : goal.put_piece-end-requires-3
put_piece-end-requires-3 c = (
  c.requires.blocks.before_is,
  omega (
    arith,
    c.requires.room,
    c.put_piece-end.ensures.long,
    c.put_piece-end.ensures.ends,
    c.requires.blocks.head_is.short,
    c.put_digits-end.ensures.placed.long,
    c.put_digits-end.ensures.few,
    c.put_piece-end-2.ensures.long,
    c.put_piece-end-2.ensures.ends,
    c.requires.blocks.between_is.short,
    c.put_front-end.ensures.placed.long,
    c.put_front-end.ensures.end,
    c.requires.few.1,
  ),
)

pub put_front-end-requires-2 : goal.put_front-end-requires-2
put_front-end-requires-2 c = (
  omega (arith, c.requires.parts.2),
  omega (
    arith,
    c.requires.room,
    c.put_piece-end.ensures.long,
    c.put_piece-end.ensures.ends,
    c.requires.blocks.head_is.short,
    c.put_digits-end.ensures.placed.long,
    c.put_digits-end.ensures.few,
    c.put_piece-end-2.ensures.long,
    c.put_piece-end-2.ensures.ends,
    c.requires.blocks.between_is.short,
    c.put_front-end.ensures.placed.long,
    c.put_front-end.ensures.end,
    c.requires.few.1,
    c.put_piece-end-3.ensures.long,
    c.put_piece-end-3.ensures.ends,
    c.requires.blocks.before_is.short,
  ),
)

pub put_piece-requires : goal.put_piece-requires
put_piece-requires c = (
  c.requires.blocks.behind_is,
  omega (
    arith,
    c.requires.room,
    c.put_piece-end.ensures.long,
    c.put_piece-end.ensures.ends,
    c.requires.blocks.head_is.short,
    c.put_digits-end.ensures.placed.long,
    c.put_digits-end.ensures.few,
    c.put_piece-end-2.ensures.long,
    c.put_piece-end-2.ensures.ends,
    c.requires.blocks.between_is.short,
    c.put_front-end.ensures.placed.long,
    c.put_front-end.ensures.end,
    c.requires.few.1,
    c.put_piece-end-3.ensures.long,
    c.put_piece-end-3.ensures.ends,
    c.requires.blocks.before_is.short,
    c.put_front-end-2.ensures.placed.long,
    c.put_front-end-2.ensures.end,
    c.requires.parts.2,
  ),
)

pub returns : goal.returns
returns c =
    json_placed c.args.template.now c.args.text.now c.args.at c.args.size (omega (arith, c.requires.room)) c.args.stamp c.args.front
    c.requires.parts.0 c.requires.parts.1 c.requires.parts.2 c.args.bytes
    c.put_piece-end.new.text c.put_digits-end.new.text c.put_piece-end-2.new.text c.put_front-end.new.text c.put_piece-end-3.new.text c.put_front-end-2.new.text c.put_piece.new.text
    c.put_piece-end.result c.put_digits-end.result c.put_piece-end-2.result c.put_front-end.result c.put_piece-end-3.result c.put_front-end-2.result c.put_piece.result
    c.requires.few.1 c.requires.bare c.put_piece-end.ensures c.put_digits-end.ensures.placed c.put_piece-end-2.ensures
    (subst (λ (l : List ℕ). Placed c.put_piece-end-2.new.text c.put_piece-end-2.result c.put_front-end.new.text c.put_front-end.result (take c.args.stamp l))
    c.block_at-shown.ensures c.put_front-end.ensures.placed)
    c.put_piece-end-3.ensures
    (subst (λ (l : List ℕ). Placed c.put_piece-end-3.new.text c.put_piece-end-3.result c.put_front-end-2.new.text c.put_front-end-2.result (take (c.args.size - c.args.front) l))
    c.block_at-own.ensures c.put_front-end-2.ensures.placed)
    c.put_piece.ensures
