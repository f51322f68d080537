use Rattle.std.proofs.Common.{length, arith}
use Rattle.defmt_decode.specs.Sent.{stream_of}
use Rattle.defmt_decode.proofs.InFrames as law
use Rattle.defmt_decode.proofs.laws.cut_between_frames.Goals as goal

pub returns-clause-rest : goal.returns-clause-rest
returns-clause-rest c t before after are = law.told_from t before after are

pub returns-clause-start : goal.returns-clause-start
returns-clause-start c t before after are = law.told_by t before after are

pub returns-clause-from : goal.returns-clause-from
returns-clause-from c t before after = law.from_between t (length (stream_of t before)) 0 before after (omega arith)

pub returns-clause-by : goal.returns-clause-by
returns-clause-by c t before after = law.by_between t (length (stream_of t before)) 0 before after (omega arith)
