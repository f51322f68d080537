use Rattle.defmt_hints.specs.Escapes.{quoted_text}
use Rattle.defmt_hints.proofs.quoted.put_quoted_char.Goals as goal

pub returns : goal.returns
unfolding quoted_text
returns c = c.put_between.ensures
