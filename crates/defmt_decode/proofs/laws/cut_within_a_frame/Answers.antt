use Rattle.std.proofs.Common.{◌+◌, length, arith}
use Rattle.defmt_decode.specs.Sent.{stream_of}
use Rattle.defmt_decode.proofs.InFrames as law
use Rattle.defmt_decode.proofs.laws.cut_within_a_frame.Goals as goal

pub returns-clause-rest : goal.returns-clause-rest
returns-clause-rest c t n before after s are short = law.told_behind t n before after s are short

pub returns-clause-start : goal.returns-clause-start
returns-clause-start c t n before after s are short = law.told_ahead t n before after s are short

pub returns-clause-from : goal.returns-clause-from
returns-clause-from c t n before after s short =
    law.from_within t (length (stream_of t before) + 1 + n) 0 before after s (omega arith) (omega (arith, short, law.size_is t s))

pub returns-clause-by : goal.returns-clause-by
returns-clause-by c t n before after s short =
    law.by_within t (length (stream_of t before) + 1 + n) 0 before after s (omega arith) (omega (arith, short, law.size_is t s))
