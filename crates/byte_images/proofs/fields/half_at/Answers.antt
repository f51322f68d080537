use Rattle.std.proofs.Common.{◌∙◌}
use Rattle.byte_images.proofs.FieldLaws.{number_found}
use Rattle.byte_images.proofs.fields.half_at.Goals as goal

pub returns-clause-value : goal.returns-clause-value
returns-clause-value c = c.from.ensures ∙ number_found c.args.at 2 c.read_u16.result c.args.bytes.now c.read_u16.ensures
