use Rattle.std.proofs.Common.{rules}
use Rattle.defmt_grammar.proofs.Cuts.{cut_split}
use Rattle.defmt_places.proofs.line.cut.Goals as goal

pub returns : goal.returns
returns c = cut_split 32 c.args.line.now c.split_once.result c.split_once.ensures.cases (search rules)
