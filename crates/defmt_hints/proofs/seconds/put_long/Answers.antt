use Rattle.std.proofs.Common.{◌++◌, codes}
use Rattle.defmt_hints.specs.Digits.{zero_filled}
use Rattle.defmt_hints.specs.Printed.{decimal_text}
use Rattle.defmt_hints.proofs.Chains.{full_front, writes_two}
use Rattle.defmt_hints.proofs.seconds.put_long.Goals as goal

pub returns-in_err-point : goal.returns-in_err-point
returns-in_err-point c = rw c.from_residual.ensures (full_front _ _ _ (decimal_text c.args.whole) (codes "." ++ zero_filled 6 (decimal_text c.args.parts)) c.in_err-point.ensures)

pub returns : goal.returns
returns c =
    writes_two c.put_parts.result c.args.out.now c.put_decimal.new.out c.put_parts.new.out c.args.at c.in_ok-point.point (decimal_text c.args.whole) (codes "." ++ zero_filled 6 (decimal_text c.args.parts)) c.requires.place c.in_ok-point.ensures c.put_parts.ensures
