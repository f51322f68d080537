use Rattle.rzcobs_core.proofs.Spreading.{DecodesFront}
use Rattle.rzcobs_core.proofs.decoder.decode_front_to_end.Given as goal

abbrev pub invariant-blocks-2 : goal.invariant-blocks-2
invariant-blocks-2 l = DecodesFront l.bytes l.size l.out l.rest l.at

abbrev pub decreases-blocks-2 : goal.decreases-blocks-2
decreases-blocks-2 l = l.rest
