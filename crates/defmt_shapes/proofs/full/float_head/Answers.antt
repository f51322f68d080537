use Rattle.std.proofs.Common.{◌∙◌, sym}
use Rattle.defmt_shapes.proofs.FullLeads.{float_boundary, float_parts, float_size}
use Rattle.defmt_shapes.proofs.full.float_head.Goals as goal

pub overflow_sub-text : goal.overflow_sub-text
overflow_sub-text c = float_size c.args.text.now c.in-Some.rest.now c.in-Some.ensures.rest

pub split_at-requires : goal.split_at-requires
split_at-requires c = float_boundary c.args.text.now c.in-Some.rest.now c.in-Some.ensures.rest (sym c.stops_there.ensures ∙ c.if-not-stops_there.false)

pub returns-clause-parts : goal.returns-clause-parts
returns-clause-parts c =
    float_parts c.args.text.now c.in-Some.rest.now c.split_at.result.0.now c.split_at.result.1.now c.in-Some.ensures.rest (sym c.stops_there.ensures ∙ c.if-not-stops_there.false) c.split_at.ensures.front c.split_at.ensures.back
