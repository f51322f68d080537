use Rattle.defmt_shapes.proofs.QuickHeads.{DigitsTo}
use Rattle.defmt_shapes.proofs.quick.numbers.quick_decimal.Given as goal

abbrev pub invariant-loop-i : goal.invariant-loop-i
invariant-loop-i l = DigitsTo l.text l.i l.number
