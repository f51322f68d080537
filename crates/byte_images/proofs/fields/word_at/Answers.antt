use Rattle.std.proofs.Common.{◌∙◌}
use Rattle.byte_images.proofs.FieldLaws.{number_found}
use Rattle.byte_images.proofs.fields.word_at.Goals as goal

pub returns-clause-value : goal.returns-clause-value
returns-clause-value c = c.from.ensures ∙ number_found c.args.at 4 c.read_u32.result c.args.bytes.now c.read_u32.ensures
