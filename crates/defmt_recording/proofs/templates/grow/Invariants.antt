use Rattle.std.proofs.Common.{◌-◌, length}
use Rattle.defmt_recording.specs.Templates.{SameSlots}
use Rattle.defmt_recording.proofs.templates.grow.Given as goal

abbrev pub invariant-each : goal.invariant-each
invariant-each l = SameSlots l.fn.templates.items l.templates.items

abbrev pub decreases-each : goal.decreases-each
decreases-each l = l.count - length l.templates.items
