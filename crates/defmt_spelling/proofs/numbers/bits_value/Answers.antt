use Rattle.defmt_spelling.proofs.LeafLaws.{wide_bits}
use Rattle.defmt_spelling.proofs.numbers.bits_value.Goals as goal

pub returns-in_default-number : goal.returns-in_default-number
returns-in_default-number c = λ n h. wide_bits c.args.number c.args.slot c.in-Bits.first c.in-Bits.width n c.into.result c.in_default-number.is c.requires c.in-Bits.is c.into.ensures h
