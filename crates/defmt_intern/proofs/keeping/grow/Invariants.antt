use Rattle.std.proofs.Common.{◌≡◌, ◌≤◌, ◌-◌, length}
use Rattle.defmt_grammar.specs.declared.language.Language.{Language}
use Rattle.defmt_intern.specs.Table.{AreReadIn, kept_in}
use Rattle.defmt_intern.proofs.keeping.grow.Given as goal

abbrev pub invariant-each : goal.invariant-each
invariant-each l = (kept_in l.slots.items ≡ kept_in l.fn.slots.items) × ((language : Language) → AreReadIn language l.fn.slots.items → AreReadIn language l.slots.items) × (length l.slots.items ≤ 65536)

abbrev pub decreases-each : goal.decreases-each
decreases-each l = l.count - length l.slots.items
