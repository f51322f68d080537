use Rattle.rzcobs_core.proofs.Spreading.{reads_front}
use Rattle.rzcobs_core.proofs.decoder.read_long_of.Goals as goal

pub returns : goal.returns
returns c = reads_front c.args.bytes.now c.args.out.now c.in_ok-front.front.now c.read_last.new.out c.args.rest c.args.at c.in_ok-front.begin c.requires.size c.in_ok-front.ensures
