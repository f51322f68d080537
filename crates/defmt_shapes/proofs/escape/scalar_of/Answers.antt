use Rattle.std.proofs.Common.{arith}
use Rattle.std.specs.Str.Parse.{digits_value}
use Rattle.defmt_shapes.proofs.NumberLaws.{parse_numeral, scalar_at, scalar_far}
use Rattle.defmt_shapes.proofs.escape.scalar_of.Goals as goal

pub returns-in-Ok : goal.returns-in-Ok
returns-in-Ok c =
    let h = parse_numeral 32 16 c.args.digits.now c.from_str_radix.result (omega arith) c.requires c.from_str_radix.ensures.value in
    let k = rw c.in-Ok.is at h in
    scalar_at (digits_value 16 c.args.digits.now) c.in-Ok.code c.from_u32.result c.from_u32.ensures.value k.1

pub returns-in-Err : goal.returns-in-Err
returns-in-Err c =
    let h = parse_numeral 32 16 c.args.digits.now c.from_str_radix.result (omega arith) c.requires c.from_str_radix.ensures.value in
    let k = rw c.in-Err.is at h in
    scalar_far (digits_value 16 c.args.digits.now) k
