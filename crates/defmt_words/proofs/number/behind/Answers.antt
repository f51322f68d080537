use Rattle.defmt_grammar.proofs.Cuts.{strip_prefix_text}
use Rattle.defmt_words.proofs.number.behind.Goals as goal

pub returns : goal.returns
returns c = strip_prefix_text c.args.front.now c.args.text.now c.strip_prefix.result c.strip_prefix.ensures.cases
