use Rattle.std.proofs.Common.{rules}
use Rattle.defmt_hints.specs.Printed.{printed_uint}
use Rattle.defmt_hints.proofs.numbers.put_uint.Goals as goal

pub returns-in-Plain : goal.returns-in-Plain
unfolding printed_uint
returns-in-Plain c = search rules

pub returns-in-Radix : goal.returns-in-Radix
unfolding printed_uint
returns-in-Radix c = rw c.in-Radix.is c.put_radix.ensures

pub returns-in-Micros : goal.returns-in-Micros
unfolding printed_uint
returns-in-Micros c = rw c.in-Micros.is c.put_micros.ensures

pub returns-in-Millis : goal.returns-in-Millis
unfolding printed_uint
returns-in-Millis c = rw c.in-Millis.is (rw c.from.ensures at c.put_fraction.ensures)

pub returns-in-Iso : goal.returns-in-Iso
unfolding printed_uint
returns-in-Iso c = rw c.in-Iso.is (rw c.from-in-Iso.ensures at c.put_date.ensures)

pub returns-in-Clock : goal.returns-in-Clock
unfolding printed_uint
returns-in-Clock c = rw c.in-Clock.is (rw c.from-in-Clock.ensures at c.put_clock.ensures)

pub returns-in-Pad : goal.returns-in-Pad
unfolding printed_uint
returns-in-Pad c = rw c.in-Pad.is (rw c.from-in-Pad.ensures at c.put_padded.ensures)
