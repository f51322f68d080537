use Rattle.std.proofs.Common.{◌∙◌, arith, rules, map, string_bytes}
use Rattle.ring_bench.proofs.Plans.{word_at, first_said, second_said, third_said, fourth_said, none_by}
use Rattle.ring_bench.proofs.plan.numbers.Goals as goal

pub returns-in_err-number : goal.returns-in_err-number
returns-in_err-number c =
    none_by (map string_bytes c.args.words.now) c.as_str.result.now 0 c.number.result c.from_residual.result
    (c.as_str.ensures.value ∙ word_at string_bytes c.args.words.now 0 c.size-item.result (omega arith) c.size-item.is)
    c.number.ensures c.in_err-number.was c.from_residual.ensures (first_said (map string_bytes c.args.words.now))

pub returns-in_err-number-2 : goal.returns-in_err-number-2
returns-in_err-number-2 c =
    none_by (map string_bytes c.args.words.now) c.as_str-2.result.now 1 c.number-2.result c.from_residual-in_err-number-2.result
    (c.as_str-2.ensures.value ∙ word_at string_bytes c.args.words.now 1 c.frame-item.result (omega arith) c.frame-item.is)
    c.number-2.ensures (search rules) (search rules) (second_said (map string_bytes c.args.words.now))

pub returns-in_err-number-3 : goal.returns-in_err-number-3
returns-in_err-number-3 c =
    none_by (map string_bytes c.args.words.now) c.as_str-3.result.now 2 c.number-3.result c.from_residual-in_err-number-3.result
    (c.as_str-3.ensures.value ∙ word_at string_bytes c.args.words.now 2 c.count-item.result (omega arith) c.count-item.is)
    c.number-3.ensures (grind arith) (grind arith) (third_said (map string_bytes c.args.words.now))

pub returns-in_err-number-4 : goal.returns-in_err-number-4
returns-in_err-number-4 c =
    none_by (map string_bytes c.args.words.now) c.as_str-4.result.now 3 c.number-4.result c.from_residual-in_err-number-4.result
    (c.as_str-4.ensures.value ∙ word_at string_bytes c.args.words.now 3 c.rounds-item.result (omega arith) c.rounds-item.is)
    c.number-4.ensures (search rules) (search rules) (fourth_said (map string_bytes c.args.words.now))
