use Rattle.std.proofs.Common.{sym}
use Rattle.defmt_grammar.proofs.Cuts.{behind_found}
use Rattle.defmt_shapes.proofs.DecimalLaws.{negative_behind, no_sign}
use Rattle.defmt_shapes.proofs.quick.numbers.quick_negative.Goals as goal

pub returns-in_default-clause-value : goal.returns-in_default-clause-value
returns-in_default-clause-value c = λ language n rest h. absurd (no_sign language c.args.text.now rest n c.in_default.ensures.rest h)

pub returns-clause-value : goal.returns-clause-value
returns-clause-value c = λ language. negative_behind language 18446744073709551600 c.args.text.now c.in-Some.digits.now c.quick_decimal.result (behind_found 45 c.args.text.now c.in-Some.digits.now (sym c.in-Some.ensures.rest)) (c.quick_decimal.ensures.value language)
