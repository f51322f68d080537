use Rattle.defmt_values.proofs.Sounds.{bytes_sound}
use Rattle.defmt_values.proofs.sound.are_bytes.Goals as goal

pub returns : goal.returns
returns c = bytes_sound c.args.bytes.now (λ k. (c.type_inv.bytes k).fits)
