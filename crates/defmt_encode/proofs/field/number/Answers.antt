use Rattle.std.proofs.Common.{◌<◌, ℕ, get_or}
use Rattle.byteorder.specs.Numbers.{little_from-lt}
use Rattle.defmt_encode.proofs.field.number.Goals as goal

pub returns-clause-small : goal.returns-clause-small
returns-clause-small c =
    let h : (k : ℕ) → get_or c.args.bytes.now k 0 < 256 = λ k. (c.type_inv.bytes k).fits in
    rw (c.low_first.ensures, c.from-width.ensures) (little_from-lt 0 c.args.width c.args.bytes.now h)
