use Rattle.defmt_shapes.proofs.QuickHeads.{DigitsTo}
use Rattle.defmt_shapes.proofs.quick.numbers.long_decimal.Given as goal

abbrev pub invariant-loop-at : goal.invariant-loop-at
invariant-loop-at l = DigitsTo l.text l.at l.number
