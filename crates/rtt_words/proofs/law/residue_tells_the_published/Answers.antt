use Rattle.rtt_words.proofs.Laws.{residue_tells_published}
use Rattle.rtt_words.proofs.law.residue_tells_the_published.Goals as goal

pub returns : goal.returns
returns c = residue_tells_published
