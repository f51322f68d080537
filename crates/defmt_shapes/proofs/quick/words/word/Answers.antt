use Rattle.std.proofs.Common.{◌≡◌, ◌<◌, get_or, length, ap, arith, rules, sym, ◌∙◌}
use Rattle.std.proofs.lemmas.Str.{IsCharBoundary-after_ascii}
use Rattle.defmt_shapes.proofs.quick.words.word.Goals as goal

pub split_at-requires : goal.split_at-requires
split_at-requires c =
    let within : 4 < length c.args.text.now = omega (arith, ap length c.as_bytes.ensures.value, c.in-102.len_at_least) in
    let last : get_or c.as_bytes.result.now 4 0 ≡ 101 = omega arith in
    let is : get_or c.args.text.now 4 0 ≡ 101 = sym (ap (λ t. get_or t 4 0) c.as_bytes.ensures.value) ∙ last in
    IsCharBoundary-after_ascii c.args.text.now 4 c.utf8.text within (omega (arith, is))

pub split_at-requires-in-116 : goal.split_at-requires-in-116
split_at-requires-in-116 c =
    let within : 3 < length c.args.text.now = search rules in
    let last : get_or c.as_bytes.result.now 3 0 ≡ 101 = search rules in
    let is : get_or c.args.text.now 3 0 ≡ 101 = sym (ap (λ t. get_or t 3 0) c.as_bytes.ensures.value) ∙ last in
    IsCharBoundary-after_ascii c.args.text.now 3 c.utf8.text within (omega (arith, is))
