use Rattle.defmt_hooks.proofs.Parts.{spelled_by, refused_by, gives_only}
use Rattle.defmt_hooks.proofs.reading.read_rules.Goals as goal

pub returns-clause-spelled : goal.returns-clause-spelled
returns-clause-spelled c = spelled_by c.args.text.now c.rules_of.result c.rules_of.ensures

pub returns-clause-refused : goal.returns-clause-refused
returns-clause-refused c = refused_by c.args.text.now c.rules_of.result c.rules_of.ensures

pub returns-clause-answered : goal.returns-clause-answered
returns-clause-answered c = gives_only c.args.text.now c.rules_of.result c.rules_of.ensures
