use Rattle.defmt_intern.proofs.BodyLaws.{starts_with}
use Rattle.defmt_intern.proofs.parsed.cut_variant.Goals as goal

pub returns-clause-parts : goal.returns-clause-parts
returns-clause-parts c = starts_with c.args.text.now c.split_once.result c.split_once.ensures.cases
