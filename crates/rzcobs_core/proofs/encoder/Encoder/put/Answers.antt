use Rattle.std.proofs.Common.{◌++◌, ◌∷◌, [], length, arith}
use Rattle.rzcobs_core.proofs.Behind.{both_written}
use Rattle.rzcobs_core.proofs.Gathering.{room_for_two}
use Rattle.rzcobs_core.proofs.encoder.Encoder.put.Goals as goal

pub close_zero-requires-clause-room : goal.close_zero-requires-clause-room
close_zero-requires-clause-room c = omega (arith, room_for_two _ _ _ _ c.requires.0 c.requires.1.gathers (length c.args.self.now.out.now) c.requires.2)

pub gather-requires-clause-room : goal.gather-requires-clause-room
gather-requires-clause-room c = omega (arith, room_for_two _ _ _ _ c.requires.0 c.requires.1.gathers (length c.args.self.now.out.now) c.requires.2)

pub close-requires-clause-gathers : goal.close-requires-clause-gathers
close-requires-clause-gathers c = (c.requires.0 ++ c.args.byte ∷ [], c.gather.ensures.one_more c.requires.0 c.requires.1)

pub close-requires-clause-room : goal.close-requires-clause-room
close-requires-clause-room c = omega (arith, room_for_two _ _ _ _ c.requires.0 c.requires.1.gathers (length c.args.self.now.out.now) c.requires.2)

pub returns-else-byte-eq0-clause-behind : goal.returns-else-byte-eq0-clause-behind
returns-else-byte-eq0-clause-behind c = both_written _ _ _ _ _ _ c.gather.ensures.behind c.close.ensures.behind
