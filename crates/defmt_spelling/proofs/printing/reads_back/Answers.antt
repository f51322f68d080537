use Rattle.defmt_spelling.proofs.Backs as backs
use Rattle.defmt_spelling.proofs.printing.reads_back.Goals as goal

pub returns : goal.returns
returns c = λ names table index vs f n s. backs.reads_back names table index vs f n s
