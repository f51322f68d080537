use Rattle.std.proofs.Common.{◌≡◌, ◌≤◌, ◌+◌, length}
use Rattle.defmt_intern.specs.Table.{entries_in, listed}
use Rattle.defmt_intern.proofs.map.EntriesIterator.next.Given as goal

-- only empty slots were passed over
abbrev pub invariant-each : goal.invariant-each
invariant-each l = (l.self-inside.index + length l.self-inside.slots.now ≤ 65536) × (listed l.self-inside.index (entries_in l.self-inside.slots.now) ≡ l.fn.self)

abbrev pub decreases-each : goal.decreases-each
decreases-each l = length l.self-inside.slots.now
