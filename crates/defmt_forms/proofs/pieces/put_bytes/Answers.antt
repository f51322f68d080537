use Rattle.defmt_forms.proofs.Placed.{put_is}
use Rattle.defmt_forms.proofs.pieces.put_bytes.Goals as goal

pub returns-clause-placed : goal.returns-clause-placed
returns-clause-placed c = put_is c.args.text.now c.args.bytes.now c.copy_from_slice.new.self c.args.at c.args.count c.requires.0 c.requires.1 c.copy_from_slice.ensures.after
