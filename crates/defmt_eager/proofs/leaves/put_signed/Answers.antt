use Rattle.std.proofs.Common.{ℤ, subst}
use mir.Facts.{to_z-of_z}
use Rattle.defmt_eager.proofs.Parts.{puts_of}
use Rattle.defmt_eager.proofs.Utf8.{utf8_signed}
use Rattle.defmt_eager.specs.Show.{int_text}
use Rattle.defmt_hints.specs.Written.{Writes}
use Rattle.defmt_eager.proofs.leaves.put_signed.Goals as goal

pub returns : goal.returns
returns c =
    puts_of c.put_of_kind.result _ _ _ _ (utf8_signed c.args.kind c.args.number c.args.hint)
    (subst (λ (z : ℤ). Writes c.put_of_kind.result c.args.out.now c.args.at c.put_of_kind.new.out (int_text c.args.kind z c.args.hint)) (to_z-of_z c.ranges.number) c.put_of_kind.ensures)
