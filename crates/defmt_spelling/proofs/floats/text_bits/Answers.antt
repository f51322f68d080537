use Rattle.std.proofs.Common.{◌∙◌, ap, sym}
use Rattle.std.specs.Float.Parse.{parse_float}
use lib.Ieee.{binary32, binary64}
use Rattle.defmt_grammar.specs.declared.kind.FloatSize.TheVariants as floats
use Rattle.defmt_spelling.proofs.FloatReads.{text_read, no_text_small, no_text_wide}
use Rattle.defmt_spelling.proofs.floats.text_bits.Goals as goal

pub returns-in-Ok-clause-value : goal.returns-in-Ok-clause-value
returns-in-Ok-clause-value c =
    rw c.in-W32.is (text_read floats.W32 c.args.text.now c.in-Ok.float c.from.result (ap (parse_float binary32) (sym c.as_bytes.ensures.value) ∙ c.in-Ok.ensures.exact) (c.from.ensures ∙ c.f32_to_bits_with_nan.ensures))

pub returns-in-Err-clause-value : goal.returns-in-Err-clause-value
returns-in-Err-clause-value c = rw c.in-W32.is (no_text_small c.args.text.now (ap (parse_float binary32) (sym c.as_bytes.ensures.value) ∙ c.in-Err.ensures.exact))

pub returns-in-Ok-parse-clause-value : goal.returns-in-Ok-parse-clause-value
returns-in-Ok-parse-clause-value c =
    rw c.in-W64.is (text_read floats.W64 c.args.text.now c.in-Ok-parse.float c.f64_to_bits_with_nan.result (ap (parse_float binary64) (sym c.as_bytes-in-W64.ensures.value) ∙ c.in-Ok-parse.ensures.exact) c.f64_to_bits_with_nan.ensures)

pub returns-in-Err-parse-clause-value : goal.returns-in-Err-parse-clause-value
returns-in-Err-parse-clause-value c = rw c.in-W64.is (no_text_wide c.args.text.now (ap (parse_float binary64) (sym c.as_bytes-in-W64.ensures.value) ∙ c.in-Err-parse.ensures.exact))
