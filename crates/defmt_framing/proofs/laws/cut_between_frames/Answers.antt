use Rattle.std.proofs.Common.{length, arith}
use Rattle.defmt_framing.specs.Frames.{frames}
use Rattle.defmt_framing.proofs.InFrames as law
use Rattle.defmt_framing.proofs.laws.cut_between_frames.Goals as goal

pub returns-clause-rest : goal.returns-clause-rest
returns-clause-rest g c tells before after are = law.told_from tells before after are

pub returns-clause-start : goal.returns-clause-start
returns-clause-start g c tells before after are = law.told_by tells before after are

pub returns-clause-from : goal.returns-clause-from
returns-clause-from g c before after = law.from_between (length (frames before)) 0 before after (omega arith)

pub returns-clause-by : goal.returns-clause-by
returns-clause-by g c before after = law.by_between (length (frames before)) 0 before after (omega arith)
