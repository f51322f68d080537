use Rattle.std.proofs.Common.{◌≡◌, length}
use Rattle.std.specs.Str.Parse.{digits_value, digits_value_after}
use Rattle.defmt_shapes.proofs.number.small_number.Given as goal

-- the number so far and the digits that are left stand for the whole number
abbrev pub invariant-digits : goal.invariant-digits
invariant-digits l = digits_value_after 10 l.number l.rest ≡ digits_value 10 l.digits

abbrev pub decreases-digits : goal.decreases-digits
decreases-digits l = length l.rest
