use Rattle.std.proofs.Common.{ℕ, ◌/◌, length, ap, arith}
use Rattle.std.specs.Int.Digits.{digits_of}
use Rattle.std.proofs.lemmas.Int.Digits.{length-digits_of_step}
use Rattle.defmt_hints.proofs.Filling.{few_digits}
use Rattle.defmt_hints.proofs.radix.count_in.Goals as goal

pub overflow_add-count : goal.overflow_add-count
overflow_add-count c = omega (arith, c.wide.invariant, few_digits c.args.base c.args.number c.requires.least (omega arith))

pub wide-preserved : goal.wide-preserved
wide-preserved c = omega (
  arith,
  c.wide.invariant,
  length-digits_of_step c.args.base c.wide.wide c.requires.least (omega arith),
  ap (λ (b : ℕ). length (digits_of c.args.base (c.wide.wide / b))) c.from-by.ensures,
)

pub overflow_add-count-in-digits : goal.overflow_add-count-in-digits
overflow_add-count-in-digits c = omega (arith, c.digits.invariant, few_digits c.args.base c.args.number c.requires.least (omega arith))

pub digits-preserved : goal.digits-preserved
digits-preserved c = omega (arith, c.digits.invariant, length-digits_of_step c.args.base c.digits.rest c.requires.least (omega arith))

pub returns-clause-few : goal.returns-clause-few
returns-clause-few c = omega (arith, c.digits.invariant, few_digits c.args.base c.args.number c.requires.least (omega arith))
