use Rattle.defmt_hints.proofs.Filling.{Filling}
use Rattle.defmt_hints.proofs.radix.put_digits.Given as goal

abbrev pub invariant-wide : goal.invariant-wide
invariant-wide l = Filling l.base l.upper l.number l.fn.out l.at l.end l.place l.wide l.out

abbrev pub decreases-wide : goal.decreases-wide
decreases-wide l = l.place

abbrev pub invariant-digits : goal.invariant-digits
invariant-digits l = Filling l.base l.upper l.number l.fn.out l.at l.end l.place l.rest l.out

abbrev pub decreases-digits : goal.decreases-digits
decreases-digits l = l.place
