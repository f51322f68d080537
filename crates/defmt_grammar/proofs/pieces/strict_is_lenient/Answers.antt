use Rattle.defmt_grammar.proofs.StrictLaws.{spells_leniently}
use Rattle.defmt_grammar.proofs.pieces.strict_is_lenient.Goals as goal

pub returns : goal.returns
returns c = spells_leniently
