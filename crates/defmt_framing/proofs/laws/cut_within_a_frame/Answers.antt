use Rattle.std.proofs.Common.{◌+◌, length, arith}
use Rattle.defmt_framing.specs.Frames.{frames}
use Rattle.defmt_framing.proofs.InFrames as law
use Rattle.defmt_framing.proofs.Truncating.{size_of}
use Rattle.defmt_framing.proofs.laws.cut_within_a_frame.Goals as goal

pub returns-clause-rest : goal.returns-clause-rest
returns-clause-rest g c tells n before after code are short = law.told_behind tells n before after code are short

pub returns-clause-start : goal.returns-clause-start
returns-clause-start g c tells n before after code are short = law.told_ahead tells n before after code are short

pub returns-clause-from : goal.returns-clause-from
returns-clause-from g c n before after code short =
    law.from_within (length (frames before) + 1 + n) 0 before after code (omega arith) (omega (arith, short, size_of code))

pub returns-clause-by : goal.returns-clause-by
returns-clause-by g c n before after code short =
    law.by_within (length (frames before) + 1 + n) 0 before after code (omega arith) (omega (arith, short, size_of code))
