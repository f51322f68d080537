use Rattle.std.proofs.Common.{arith}
use Rattle.defmt_forms.proofs.Placed.{escaped_more, escaped_none}
use Rattle.defmt_forms.proofs.escaping.put_escapes.Goals as goal

pub bytes-init : goal.bytes-init
bytes-init c = escaped_none c.args.text.now c.args.at c.args.from.now (omega (arith, c.requires))

pub bytes-preserved : goal.bytes-preserved
bytes-preserved c =
    escaped_more c.args.text.now c.bytes.text c.put_byte-end.new.text c.args.at c.bytes.end c.put_byte-end.result c.args.from.now c.bytes.rest.now c.in-Some.behind.now c.in-Some.byte.now
    c.bytes.invariant c.in-Some.ensures.cases.0 c.put_byte-end.ensures.placed c.put_byte-end.ensures.few
