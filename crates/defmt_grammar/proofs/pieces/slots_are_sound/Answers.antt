use Rattle.defmt_grammar.proofs.Wholes.{slots_sound}
use Rattle.defmt_grammar.proofs.pieces.slots_are_sound.Goals as goal

pub returns : goal.returns
returns c = slots_sound
