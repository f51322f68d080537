use Rattle.std.proofs.Common.{refl}
use Rattle.defmt_framing.proofs.Agree.{decoded_found, decoded_none}
use Rattle.defmt_framing.proofs.FrameCodes.{lacks_zero}
use Rattle.defmt_framing.proofs.decoded.decode_zeroless_piece.Goals as goal

pub decode_zeroless_to_end-requires-clause-none : goal.decode_zeroless_to_end-requires-clause-none
decode_zeroless_to_end-requires-clause-none c = lacks_zero c.args.piece.now c.requires.none

pub returns-in-Ok-clause-decoded : goal.returns-in-Ok-clause-decoded
returns-in-Ok-clause-decoded c = decoded_found c.args.piece.now _ c.in-Ok.ensures.found.1

pub returns-in-Err-clause-decoded : goal.returns-in-Err-clause-decoded
returns-in-Err-clause-decoded c = decoded_none c.args.piece.now (c.in-Err.ensures.malformed refl)
