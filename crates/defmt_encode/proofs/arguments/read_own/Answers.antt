use Rattle.defmt_encode.proofs.Own.{one_number}
use Rattle.defmt_encode.proofs.arguments.read_own.Goals as goal

pub returns-in-Some : goal.returns-in-Some
returns-in-Some c = one_number c.args.table.now.entries c.args.pieces.now c.in-Some.size c.args.bytes.now c.slots.result.now c.slots.ensures.slots c.in-Some.ensures _ c.read_only.ensures
