use Rattle.std.proofs.Common.{◌∙◌, ap, arith}
use Rattle.defmt_intern.specs.Entries as map
use Rattle.defmt_intern.specs.Table.{Map}
use Rattle.defmt_intern.proofs.Slots.{few_kept}
use Rattle.defmt_intern.proofs.map.EntryMap.len.Goals as goal

pub returns-clause-value : goal.returns-clause-value
returns-clause-value c = c.self.invariant.counted ∙ ap (λ (t : Map). map.len t) c.self.view_is

pub returns-clause-few : goal.returns-clause-few
returns-clause-few c = omega (arith, c.self.invariant.counted, few_kept c.self.inside.slots.items c.self.invariant.few)
