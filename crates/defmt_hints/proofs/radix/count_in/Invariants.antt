use Rattle.std.proofs.Common.{◌+◌, ◌≡◌, length}
use Rattle.std.specs.Int.Digits.{digits_of}
use Rattle.defmt_hints.proofs.radix.count_in.Given as goal

abbrev pub invariant-wide : goal.invariant-wide
invariant-wide l = l.count + length (digits_of l.base l.wide) ≡ length (digits_of l.base l.number)

abbrev pub decreases-wide : goal.decreases-wide
decreases-wide l = l.wide

abbrev pub invariant-digits : goal.invariant-digits
invariant-digits l = l.count + length (digits_of l.base l.rest) ≡ length (digits_of l.base l.number)

abbrev pub decreases-digits : goal.decreases-digits
decreases-digits l = l.rest
