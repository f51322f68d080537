use Rattle.std.proofs.Common.{List, ap, arith, min, ◌-◌, ◌^◌, ◌∙◌, ℕ}
use Rattle.std.specs.Str.Parse.{digits_value}
use Rattle.defmt_lines.specs.Number.{is_digits}
use Rattle.defmt_lines.proofs.Numbers.{one_digit, value_parse}
use Rattle.defmt_lines.proofs.number.value_of.Goals as goal

pub overflow_sub-digit : goal.overflow_sub-digit
overflow_sub-digit c = (one_digit c.as_bytes.result.now (ap is_digits c.as_bytes.ensures.value ∙ c.requires) (omega arith)).digit

pub returns-in-len1 : goal.returns-in-len1
returns-in-len1 c =
    let one = one_digit c.as_bytes.result.now (ap is_digits c.as_bytes.ensures.value ∙ c.requires) (omega arith) in
    c.from.ensures ∙ one.value ∙ ap (λ (text : List ℕ). min (digits_value 10 text) (2 ^ 64 - 1)) c.as_bytes.ensures.value

pub returns-in_default : goal.returns-in_default
returns-in_default c = value_parse c.args.text.now c.parse.result c.unwrap_or.result c.parse.ensures.value.0 c.requires c.unwrap_or.ensures
