use Rattle.std.proofs.Common.{codes}
use Rattle.defmt_hints.specs.Printed.{decimal_text}
use Rattle.defmt_hints.proofs.Chains.{writes_two}
use Rattle.defmt_hints.proofs.numbers.put_negative.Goals as goal

pub returns : goal.returns
returns c =
    writes_two c.put_wide_decimal.result c.args.out.now c.put.new.out c.put_wide_decimal.new.out c.args.at c.in_ok-digits.digits (codes "-") (decimal_text c.args.magnitude) c.requires c.in_ok-digits.ensures c.put_wide_decimal.ensures
