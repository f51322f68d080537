use Rattle.std.proofs.Common.{refl, take}
use Rattle.defmt_framing.proofs.Agree.{decoded_found, decoded_none}
use Rattle.defmt_framing.proofs.FrameCodes.{lacks_zero}
use Rattle.defmt_framing.proofs.decoded.decode_piece_in_front.Goals as goal

pub decode_front_to_end-requires-clause-none : goal.decode_front_to_end-requires-clause-none
decode_front_to_end-requires-clause-none c = lacks_zero (take c.args.size c.args.bytes.now) c.requires.none

pub returns-in-Ok-clause-decoded : goal.returns-in-Ok-clause-decoded
returns-in-Ok-clause-decoded c = decoded_found (take c.args.size c.args.bytes.now) _ c.in-Ok.ensures.found.1

pub returns-in-Err-clause-decoded : goal.returns-in-Err-clause-decoded
returns-in-Err-clause-decoded c = decoded_none (take c.args.size c.args.bytes.now) (c.in-Err.ensures.malformed refl)
