use Rattle.std.proofs.Common.{arith}
use Rattle.defmt_values.specs.View.{plain}
use Rattle.defmt_spelling.proofs.QuickLaws.{negative_quick}
use Rattle.defmt_spelling.proofs.quick.below_zero.Goals as goal

pub returns-in-Ok-clause-value : goal.returns-in-Ok-clause-value
returns-in-Ok-clause-value c =
    let k = c.in-Ok.ensures c.in-Some.number (c.from.ensures, omega arith) in
    negative_quick c.args.slot c.args.text.now c.in-Some.rest.now c.in-Some.number (plain c.in-Ok.value) c.requires c.in-Some.ensures.value k.0 k.1
