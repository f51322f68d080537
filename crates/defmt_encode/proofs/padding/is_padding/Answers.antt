use Rattle.defmt_encode.proofs.Zeros.{padding_by_sum}
use Rattle.defmt_encode.proofs.padding.is_padding.Goals as goal

pub returns : goal.returns
returns c = padding_by_sum c.args.bytes.now c.few_sum.result c.few_sum.ensures.few c.few_sum.ensures.many
