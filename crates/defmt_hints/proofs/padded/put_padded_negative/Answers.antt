use Rattle.std.proofs.Common.{◌-◌, codes}
use Rattle.defmt_hints.specs.Digits.{zero_filled}
use Rattle.defmt_hints.specs.Printed.{decimal_text}
use Rattle.defmt_hints.proofs.Chains.{writes_two}
use Rattle.defmt_hints.proofs.padded.put_padded_negative.Goals as goal

pub returns : goal.returns
returns c =
    writes_two c.put_padded.result c.args.out.now c.put.new.out c.put_padded.new.out c.args.at c.in_ok-digits.digits (codes "-") (zero_filled (c.args.width - 1) (decimal_text c.args.magnitude)) c.requires c.in_ok-digits.ensures
    (rw c.saturating_sub.ensures at c.put_padded.ensures)
