use Rattle.defmt_hints.proofs.DigitsLaws.{are_digits, only_digits, length_zero_filled}
use Rattle.defmt_hints.proofs.laws.digits_are_unique.Goals as goal

pub returns-clause-are : goal.returns-clause-are
returns-clause-are c = are_digits

pub returns-clause-only : goal.returns-clause-only
returns-clause-only c = only_digits

pub returns-clause-filled : goal.returns-clause-filled
returns-clause-filled c = length_zero_filled
