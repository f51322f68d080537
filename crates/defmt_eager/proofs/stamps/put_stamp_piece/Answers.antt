use Rattle.std.proofs.Common.{List, ℕ, ap, subst, ◌∙◌}
use Rattle.defmt_eager.proofs.Parts.{placed_none, puts_of}
use Rattle.defmt_eager.proofs.StampParts.{own_acts, stamp_none, stamp_other, stamp_param}
use Rattle.defmt_eager.specs.Answers.{Placed, Puts}
use Rattle.defmt_hints.proofs.Utf8Laws.{utf8_uint}
use Rattle.defmt_hints.specs.Printed.{printed_uint}
use Rattle.defmt_eager.proofs.stamps.put_stamp_piece.Goals as goal

pub returns-in_default : goal.returns-in_default
returns-in_default c = λ t.
    rw (c.in-Param.is, c.in_default.is) (subst (λ (x : List ℕ). Placed c.args.out.now c.args.at c.args.out.now c.args.at x) (stamp_none t c.in-Param.param.position c.in-Param.param.kind c.in-Param.param.hint) (placed_none c.args.out.now c.args.at c.requires))

pub returns-then-param-ne0 : goal.returns-then-param-ne0
returns-then-param-ne0 c = λ t.
    rw (c.in-Param.is, c.in-Some.is) (subst (λ (x : List ℕ). Placed c.args.out.now c.args.at c.args.out.now c.args.at x) (stamp_other t c.in-Some.number c.in-Param.param.position c.in-Param.param.kind c.in-Param.param.hint c.if-param-ne0.true) (placed_none c.args.out.now c.args.at c.requires))

pub returns-else-param-ne0 : goal.returns-else-param-ne0
returns-else-param-ne0 c = λ t.
    rw (c.in-Param.is, c.in-Some.is) (subst (λ (x : List ℕ). Puts c.put_uint.result c.args.out.now c.args.at c.put_uint.new.out x)
    (ap (printed_uint c.in-Some.number) (own_acts c.in-Param.param.hint) ∙ stamp_param t c.in-Some.number c.in-Param.param.position c.in-Param.param.kind c.in-Param.param.hint c.if-param-ne0.false)
    (puts_of c.put_uint.result _ _ _ _ (utf8_uint _ _) c.put_uint.ensures))
