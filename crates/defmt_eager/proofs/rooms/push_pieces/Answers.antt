use Rattle.defmt_hints.proofs.Appending.{room_utf8}
use Rattle.defmt_eager.proofs.rooms.push_pieces.Goals as goal

pub append-requires-clause-utf8 : goal.append-requires-clause-utf8
append-requires-clause-utf8 c = room_utf8 c.in-Some.ensures.written c.in-Some.ensures.utf8
