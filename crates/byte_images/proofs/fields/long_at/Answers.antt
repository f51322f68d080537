use Rattle.byte_images.proofs.FieldLaws.{number_found}
use Rattle.byte_images.proofs.fields.long_at.Goals as goal

pub returns : goal.returns
returns c = number_found c.args.at 8 _ c.args.bytes.now c.read_u64.ensures
