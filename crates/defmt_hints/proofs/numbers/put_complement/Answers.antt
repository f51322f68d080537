use Rattle.std.proofs.Common.{rules}
use Rattle.defmt_hints.specs.Printed.{printed_int}
use Rattle.defmt_hints.proofs.numbers.put_complement.Goals as goal

pub returns-in-Radix : goal.returns-in-Radix
unfolding printed_int
returns-in-Radix c = λ z s e. rw (c.in-Radix.is, e) c.put_radix.ensures

pub returns-in-Plain : goal.returns-in-Plain
unfolding printed_int
returns-in-Plain c = search rules

pub returns-in-Pad : goal.returns-in-Pad
unfolding printed_int
returns-in-Pad c = λ z s e. rw c.in-Pad.is (c.put_padded_shown.ensures z s e)
