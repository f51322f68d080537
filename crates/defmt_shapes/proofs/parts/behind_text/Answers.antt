use Rattle.defmt_grammar.proofs.Cuts.{strip_prefix_text}
use Rattle.defmt_shapes.proofs.parts.behind_text.Goals as goal

pub returns-clause-rest : goal.returns-clause-rest
returns-clause-rest c = strip_prefix_text c.args.front.now c.args.text.now c.strip_prefix.result c.strip_prefix.ensures.cases
