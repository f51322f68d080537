use Rattle.rtt_terminal.proofs.Lines.{spoken_shows}
use Rattle.rtt_terminal.proofs.laws.spoken_is_read.Goals as goal

pub returns : goal.returns
returns c = spoken_shows
