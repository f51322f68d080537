use Rattle.std.proofs.Common.{◌+◌, ◌≡◌, length, decimal}
use Rattle.defmt_hints.proofs.numbers.digit_count.Given as goal

abbrev pub invariant-digits : goal.invariant-digits
invariant-digits l = l.count + length (decimal l.rest) ≡ length (decimal l.number)

abbrev pub decreases-digits : goal.decreases-digits
decreases-digits l = l.rest
