use Rattle.defmt_floats.proofs.Bounds.{small_parts}
use Rattle.defmt_floats.proofs.leading.leading.Goals as goal

pub quick-requires-clause-small : goal.quick-requires-clause-small
quick-requires-clause-small g c =
    let d = c.decode-significand.ensures in
    small_parts g.F.RawFloat.format c.args.bits _ _ c.requires.0 c.requires.1 d.significand d.exponent
