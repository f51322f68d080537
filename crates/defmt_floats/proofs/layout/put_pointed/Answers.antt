use Rattle.std.proofs.Common.{◌≡◌, List, ℕ, ◌++◌, take, drop, ap, ◌∙◌, rules}
use Rattle.defmt_floats.proofs.TextLaws.{joined, pointed_within, pointed_behind}
use Rattle.defmt_floats.proofs.layout.put_pointed.Goals as goal

pub returns-then-before-digits : goal.returns-then-before-digits
returns-then-before-digits c =
    let front : c.range.result.now ≡ take c.args.before c.args.digits.now = search rules in
    let rest : c.range_from.result.now ≡ drop c.args.before c.args.digits.now = search rules in
    let texts = joined _ _ _ (joined _ _ _ (rw front at c.push_str.ensures.bytes) c.push_str-then-before-digits.ensures.bytes) (rw rest at c.push_str-then-before-digits-2.ensures.bytes) in
    texts ∙ ap (λ (t : List ℕ). c.args.text.now.bytes ++ t) (pointed_within c.args.digits.now c.args.before c.if-before-digits.true)

pub returns-else-before-digits : goal.returns-else-before-digits
returns-else-before-digits c =
    joined _ _ _ (joined _ _ _ c.push_str-else-before-digits.ensures.bytes c.put_zeros.ensures) c.push_str-else-before-digits-2.ensures.bytes
    ∙ ap (λ (t : List ℕ). c.args.text.now.bytes ++ t) (pointed_behind c.args.digits.now c.args.before c.if-before-digits.false)
