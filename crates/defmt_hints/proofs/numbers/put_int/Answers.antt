use Rattle.std.proofs.Common.{◌≡◌, arith, rules}
use Rattle.std.proofs.lemmas.Grind.{common_steps}
use Rattle.std.proofs.lemmas.Int.{ints}
use Rattle.defmt_grammar.specs.Sizes.{size_bits}
use Rattle.defmt_hints.specs.Printed.{printed_int, twos_complement}
use Rattle.defmt_hints.proofs.numbers.put_int.Goals as goal

pub returns-in-Radix : goal.returns-in-Radix
unfolding printed_int
returns-in-Radix c =
    let same : c.twos_complement.result ≡ twos_complement (size_bits c.args.size) c.args.number = first_of (search rules, grind (arith, ints), grind (arith, common_steps)) in
    rw c.in-Radix.is (rw same at c.put_wide_radix.ensures)

pub returns-in-Plain : goal.returns-in-Plain
unfolding printed_int
returns-in-Plain c = search rules

pub returns-in-Pad : goal.returns-in-Pad
unfolding printed_int
returns-in-Pad c = search rules
