use Rattle.defmt_grammar.proofs.StrictLaws.{spells_fully}
use Rattle.defmt_grammar.proofs.pieces.base_is_full.Goals as goal

pub returns : goal.returns
returns c = spells_fully
