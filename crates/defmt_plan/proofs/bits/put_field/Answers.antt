use Rattle.defmt_plan.proofs.Fields.{field_by}
use Rattle.defmt_plan.proofs.bits.put_field.Goals as goal

pub returns : goal.returns
returns c =
    field_by c.put_uint.result c.args.field c.args.hint c.args.bytes.now c.args.before c.args.out.now c.put_uint.new.out c.in_ok-sent.sent c.in_ok-bits.bits (rw c.from.ensures at c.in_ok-sent.ensures.small) (rw c.from.ensures at c.in_ok-sent.ensures.carried) c.in_ok-bits.ensures c.put_uint.ensures
