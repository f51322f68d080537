use Rattle.std.proofs.Common.{◌∙◌, ap}
use Rattle.std.specs.Float.Numeral.{scan_numeral, nearest_float}
use lib.Ieee.{binary32, binary64}
use Rattle.defmt_grammar.specs.declared.kind.FloatSize.TheVariants as floats
use Rattle.defmt_spelling.proofs.FloatReads.{number_bits}
use Rattle.defmt_spelling.proofs.floats.nearest_bits.Goals as goal

pub returns-in-W32-clause-value : goal.returns-in-W32-clause-value
returns-in-W32-clause-value c = λ n h.
    rw c.in-W32.is (number_bits floats.W32 c.args.negative c.args.digits.now n c.to_float-float.result c.from.result
    (c.to_float-float.ensures ∙ ap (nearest_float binary32 c.args.negative) (c.scan-numeral.ensures.parts ∙ ap scan_numeral c.as_bytes.ensures.value)) (c.from.ensures ∙ c.f32_to_bits_with_nan.ensures) h)

pub returns-in-W64-clause-value : goal.returns-in-W64-clause-value
returns-in-W64-clause-value c = λ n h.
    rw c.in-W64.is (number_bits floats.W64 c.args.negative c.args.digits.now n c.to_float-float-in-W64.result c.f64_to_bits_with_nan.result
    (c.to_float-float-in-W64.ensures ∙ ap (nearest_float binary64 c.args.negative) (c.scan-numeral.ensures.parts ∙ ap scan_numeral c.as_bytes.ensures.value)) c.f64_to_bits_with_nan.ensures h)
