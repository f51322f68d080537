use Rattle.std.proofs.Common.{◌≡◌, ◌-◌}
use Rattle.defmt_eager.proofs.RoomSizes.{IsRoom}
use Rattle.defmt_eager.proofs.rooms.push_pieces.Given as goal

abbrev pub invariant-rooms : goal.invariant-rooms
invariant-rooms l = (l.out ≡ l.fn.out) × IsRoom l.size

abbrev pub decreases-rooms : goal.decreases-rooms
decreases-rooms l = 65537 - l.size
