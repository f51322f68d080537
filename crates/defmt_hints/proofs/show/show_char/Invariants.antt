use Rattle.std.proofs.Common.{◌≡◌, ◌<◌, ◌-◌, ◌^◌}
use Rattle.defmt_hints.proofs.show.show_char.Given as goal

abbrev pub invariant-rooms : goal.invariant-rooms
invariant-rooms l = (l.out ≡ l.fn.out) × (0 < l.size)

abbrev pub decreases-rooms : goal.decreases-rooms
decreases-rooms l = 2 ^ 64 - l.size
