use Rattle.defmt_decode.proofs.Sending.{parts_are}
use Rattle.defmt_decode.proofs.laws.events_by_parts.Goals as goal

pub returns : goal.returns
returns c t stream = parts_are t stream
