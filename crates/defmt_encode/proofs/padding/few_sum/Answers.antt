use Rattle.defmt_encode.proofs.Zeros.{six_sum}
use Rattle.defmt_encode.proofs.padding.few_sum.Goals as goal

pub returns-in-len6-clause-few : goal.returns-in-len6-clause-few
returns-in-len6-clause-few c = λ few.
    six_sum c.args.bytes.now c.part-in-len6.result c.part-in-len6-2.result c.part-in-len6-3.result c.part-in-len6-4.result c.part-in-len6-5.result c.part-in-len6-6.result c.in-len6.len_at_least few
    c.part-in-len6.ensures.value c.part-in-len6-2.ensures.value c.part-in-len6-3.ensures.value c.part-in-len6-4.ensures.value c.part-in-len6-5.ensures.value c.part-in-len6-6.ensures.value
