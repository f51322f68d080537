use Rattle.std.proofs.lemmas.Bool.{OnTrue_at}
use Rattle.defmt_shapes.proofs.BareLaws.{bare_lead}
use Rattle.defmt_shapes.specs.Leads.{view_heads}
use Rattle.defmt_shapes.proofs.head.base_head.Goals as goal

pub returns-then-is_bare-clause-parts : goal.returns-then-is_bare-clause-parts
returns-then-is_bare-clause-parts c = bare_lead c.args.text.now (view_heads c.bare_head.result) (OnTrue_at c.if-is_bare.true c.is_bare.ensures) c.bare_head.ensures.parts
