use Rattle.std.proofs.Common.{List, ℕ, arith, sym, subst}
use Rattle.defmt_hints.proofs.PairLaws.{hex_pair}
use Rattle.defmt_hints.specs.Written.{Writes}
use Rattle.defmt_hints.proofs.radix.put_pair.Goals as goal

pub returns : goal.returns
returns c =
    subst (λ (t : List ℕ). Writes c.put.result c.args.out.now c.args.at c.put.new.out t) (sym (hex_pair c.args.upper c.args.byte (omega arith)))
    (rw (c.glyph.ensures, c.glyph-2.ensures) at c.put.ensures)
