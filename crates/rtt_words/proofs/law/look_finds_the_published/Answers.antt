use Rattle.rtt_words.proofs.Laws.{finds_published}
use Rattle.rtt_words.proofs.law.look_finds_the_published.Goals as goal

pub returns : goal.returns
returns c = finds_published
