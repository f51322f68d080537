use Rattle.std.proofs.Common.{arith, length-set}
use Rattle.defmt_encode.proofs.Delimiters.{frame_front, frame_behind}
use Rattle.defmt_encode.proofs.framing.frame.Goals as goal

pub returns-clause-frame : goal.returns-clause-frame
returns-clause-frame c = frame_front c.args.out.now c.encode-count.new.out _ c.encode-count.result (omega arith) (omega (arith, length-set c.args.out.now 0 0)) c.encode-count.ensures.code

pub returns-clause-behind : goal.returns-clause-behind
returns-clause-behind c = frame_behind c.args.out.now c.encode-count.new.out c.encode-count.result (omega arith) (omega (arith, length-set c.args.out.now 0 0)) c.encode-count.ensures.behind
