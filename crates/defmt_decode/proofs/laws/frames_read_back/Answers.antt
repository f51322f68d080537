use Rattle.defmt_decode.proofs.Sending.{sent_line, code_short}
use Rattle.defmt_decode.proofs.laws.frames_read_back.Goals as goal

pub returns-clause-line : goal.returns-clause-line
returns-clause-line c t s sent = sent_line t s sent

pub returns-clause-short : goal.returns-clause-short
returns-clause-short c t s short = code_short t s short
