use Rattle.std.proofs.Common.{◌+◌, ◌*◌, refl}
use Rattle.defmt_shapes.proofs.MeaningLaws.{few_digits, no_first, no_second, two_digits}
use Rattle.defmt_shapes.proofs.meaning.first_byte.Goals as goal

pub returns-in_default : goal.returns-in_default
returns-in_default c = few_digits c.args.digits.now c.in_default.ensures

pub returns-in_default-digit_of : goal.returns-in_default-digit_of
returns-in_default-digit_of c = no_first c.args.digits.now c.in-Some.rest.now c.in-Some.first c.in-Some.second c.in-Some.ensures c.in_default-digit_of.ensures

pub returns-in_default-digit_of-2 : goal.returns-in_default-digit_of-2
returns-in_default-digit_of-2 c = no_second c.args.digits.now c.in-Some.rest.now c.in-Some.first c.in-Some.second c.in-Some.ensures c.in_default-digit_of-2.ensures

pub returns : goal.returns
returns c =
    two_digits c.args.digits.now c.in-Some.rest.now c.in-Some.first c.in-Some.second c.in-Some-digit_of.high c.in-Some-digit_of-2.low (16 * c.in-Some-digit_of.high + c.in-Some-digit_of-2.low)
    c.in-Some.ensures c.in-Some-digit_of.ensures c.in-Some-digit_of-2.ensures refl
