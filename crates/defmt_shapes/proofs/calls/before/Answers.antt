use Rattle.defmt_grammar.proofs.Cuts.{before_suffix}
use Rattle.defmt_shapes.proofs.calls.before.Goals as goal

pub returns-clause-front : goal.returns-clause-front
returns-clause-front c = before_suffix c.args.last c.args.text.now c.strip_suffix.result c.strip_suffix.ensures.cases c.requires
