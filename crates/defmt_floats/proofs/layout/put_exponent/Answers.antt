use Rattle.std.proofs.Common.{◌≤◌, length, ap, arith}
use Rattle.std.specs.Fmt.{decimal}
use Rattle.std.proofs.lemmas.Fmt.{length-decimal-le}
use Rattle.defmt_floats.proofs.TextLaws.{joined}
use Rattle.defmt_floats.proofs.layout.put_exponent.Goals as goal

pub push_str-requires-2 : goal.push_str-requires-2
push_str-requires-2 c =
    let short : length (decimal c.args.power) ≤ 3 = length-decimal-le 3 c.args.power (omega arith) (omega arith) (omega arith) in
    (omega arith, omega (arith, short, c.push_str.ensures.len, ap length c.format.ensures.text))

pub returns : goal.returns
returns c = joined _ _ _ c.push_str.ensures.bytes (rw c.format.ensures.text at c.push_str-2.ensures.bytes)
