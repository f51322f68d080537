use Rattle.defmt_eager.proofs.Utf8.{utf8_none}
use Rattle.defmt_eager.proofs.pieces.interned_text.Goals as goal

pub returns-in-None-clause-utf8 : goal.returns-in-None-clause-utf8
returns-in-None-clause-utf8 c = utf8_none
