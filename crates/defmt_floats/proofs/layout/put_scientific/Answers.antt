use Rattle.std.proofs.Common.{◌≡◌, ◌≤◌, ℕ, List, ◌++◌, length, take, ap, ◌∙◌, arith, rules, length-append}
use Rattle.std.specs.Fmt.{decimal}
use Rattle.std.proofs.lemmas.Grind.{common_steps}
use Rattle.defmt_floats.specs.Layout.{others}
use Rattle.defmt_floats.proofs.TextLaws.{joined, scientific_is, others_short}
use Rattle.defmt_floats.proofs.layout.put_scientific.Goals as goal

pub put_exponent-requires-clause-room : goal.put_exponent-requires-clause-room
put_exponent-requires-clause-room c =
    let first : c.range.result.now ≡ take 1 c.args.digits.now = search rules in
    let one : length (take 1 c.args.digits.now) ≤ 1 = grind (arith, common_steps) in
    let more = ap length c.put_others.ensures ∙ length-append c.push_str.new.self.bytes (others c.args.digits.now) in
    omega (arith, ap length first, one, more, others_short c.args.digits.now, c.push_str.ensures.len, c.push_str-2.ensures.len)

pub returns : goal.returns
returns c =
    let first : c.range.result.now ≡ take 1 c.args.digits.now = search rules in
    let front = joined _ _ _ (joined _ _ _ (rw first at c.push_str.ensures.bytes) c.put_others.ensures) c.push_str-2.ensures.bytes in
    joined _ _ _ front c.put_exponent.ensures ∙ ap (λ (t : List ℕ). c.args.text.now.bytes ++ t) (scientific_is c.args.digits.now (c.args.sign.now ++ decimal c.args.power))
