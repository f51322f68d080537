use Rattle.defmt_framing.proofs.FrameCodes.{codes}
use Rattle.defmt_framing.proofs.laws.messages_have_codes.Goals as goal

pub returns : goal.returns
returns c messages some = codes messages some
