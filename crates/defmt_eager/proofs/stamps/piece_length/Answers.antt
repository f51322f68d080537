use Rattle.std.proofs.Common.{length, ap, ◌∙◌}
use Rattle.defmt_eager.proofs.StampParts.{stamp_none, stamp_other, stamp_param}
use Rattle.defmt_hints.specs.Printed.{printed_uint}
use Rattle.defmt_eager.proofs.stamps.piece_length.Goals as goal

pub returns-in_default : goal.returns-in_default
returns-in_default c = λ t. rw (c.in-Param.is, c.in_default.is) (ap length (stamp_none t c.in-Param.param.position c.in-Param.param.kind c.in-Param.param.hint))

pub returns-then-param-ne0 : goal.returns-then-param-ne0
returns-then-param-ne0 c = λ t.
    rw (c.in-Param.is, c.in-Some.is) (ap length (stamp_other t c.in-Some.number c.in-Param.param.position c.in-Param.param.kind c.in-Param.param.hint c.if-param-ne0.true))

pub returns-else-param-ne0 : goal.returns-else-param-ne0
returns-else-param-ne0 c = λ t.
    rw (c.in-Param.is, c.in-Some.is) (c.number_length.ensures
    ∙ ap length (ap (printed_uint c.in-Some.number) c.acting.ensures ∙ stamp_param t c.in-Some.number c.in-Param.param.position c.in-Param.param.kind c.in-Param.param.hint c.if-param-ne0.false))
