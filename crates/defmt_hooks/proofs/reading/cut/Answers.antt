use Rattle.defmt_grammar.proofs.Cuts.{cut_split}
use Rattle.defmt_hooks.proofs.reading.cut.Goals as goal

pub returns-clause-parts : goal.returns-clause-parts
returns-clause-parts c = cut_split c.args.at c.args.text.now c.split_once.result c.split_once.ensures.cases c.requires
