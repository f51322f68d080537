use Rattle.std.proofs.Common.{◌∙◌, None, ap}
use Rattle.defmt_spelling.specs.Names.{pairs}
use Rattle.defmt_spelling.proofs.NameLaws.{least_is, least_named}
use Rattle.defmt_spelling.proofs.names.Names.name_of.Goals as goal

pub loop-name-init : goal.loop-name-init
loop-name-init c = (
  tt,
  tt,
  ap (λ es. least_named (pairs es) c.args.index None) (c.into_iter-name-iterator.ensures.into_iter_gives ∙ c.iter-name-items.ensures.rest)
      ∙ least_is c.self.inside.names.entries c.args.self.now c.args.index c.self.view_is c.iter-name-items.ensures.found,
)
