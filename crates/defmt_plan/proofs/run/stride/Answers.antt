use Rattle.defmt_eager.proofs.Parts.{placed}
use Rattle.defmt_plan.proofs.Running.{stride_bits, stride_peek, stride_text, stride_value}
use Rattle.defmt_plan.proofs.run.stride.Goals as goal

pub returns-in_ok-written-in-Text : goal.returns-in_ok-written-in-Text
returns-in_ok-written-in-Text c = λ t.
    rw c.in-Text.is (stride_text t c.in-Text.text c.args.bytes.now c.args.before c.args.out.now c.put_short.new.out c.in_ok-written-in-Text.written (placed c.as_str.ensures.utf8 (rw (c.as_bytes.ensures.value, c.as_str.ensures.text) at c.in_ok-written-in-Text.ensures)))

pub returns-in-Value : goal.returns-in-Value
returns-in-Value c = λ t. rw c.in-Value.is (stride_value t c.in-Value.kind c.in-Value.hint c.args.bytes.now c.args.before c.args.out.now c.pass_value.new.out c.pass_value.result (c.pass_value.ensures t))

pub returns-in-Peek : goal.returns-in-Peek
returns-in-Peek c = λ t. rw (c.in-Peek.is, c.read_at_once.ensures) (stride_peek t c.in-Peek.field c.in-Peek.hint c.args.bytes.now c.args.before c.args.out.now c.pass_field.new.out c.pass_field.result c.pass_field.ensures.field c.pass_field.ensures.read)

pub returns-in-Bits : goal.returns-in-Bits
returns-in-Bits c = λ t. rw (c.in-Bits.is, c.read_at_once-in-Bits.ensures) (stride_bits t c.in-Bits.field c.in-Bits.hint c.args.bytes.now c.args.before c.args.out.now c.pass_field-in-Bits.new.out c.pass_field-in-Bits.result c.pass_field-in-Bits.ensures.field c.pass_field-in-Bits.ensures.read)
