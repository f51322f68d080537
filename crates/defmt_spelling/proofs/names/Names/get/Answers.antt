use Rattle.std.proofs.Common.{◌∙◌}
use Rattle.defmt_spelling.proofs.NameLaws.{got_is}
use Rattle.defmt_spelling.proofs.names.Names.get.Goals as goal

pub returns-in-None : goal.returns-in-None
returns-in-None c = got_is c.self.inside.names.entries c.args.self.now c.args.name.now c.copied.result c.self.view_is (c.copied.ensures ∙ c.get.ensures.value)
