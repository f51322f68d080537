use Rattle.defmt_hints.specs.Escapes.{byte_text}
use Rattle.defmt_hints.proofs.quoted.put_byte_text.Goals as goal

pub returns : goal.returns
unfolding byte_text
returns c = c.put_between.ensures
