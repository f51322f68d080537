use Rattle.defmt_encode.proofs.Laws.{stamp_length}
use Rattle.defmt_script.proofs.laws.stamps_are_alike.Goals as goal

pub returns : goal.returns
returns c = λ table place index args one other. stamp_length table place one other index args
