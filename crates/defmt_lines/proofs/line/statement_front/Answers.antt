use Rattle.std.proofs.Common.{◌≡◌, ◌<◌, ◌≤◌, ℕ, List, get_or, length, ap, arith, sym, ◌∙◌}
use Rattle.std.proofs.lemmas.Str.{IsCharBoundary-after_ascii}
use Rattle.defmt_lines.proofs.FrontLaws.{four_parts, front_is}
use Rattle.defmt_lines.proofs.line.statement_front.Goals as goal

pub split_at-requires : goal.split_at-requires
split_at-requires c =
    let within : 3 < length c.args.text.now = omega (arith, ap length c.as_bytes.ensures.value, c.in-119.len_at_least) in
    let space : get_or c.as_bytes.result.now 3 0 ≡ 32 = omega arith in
    let is : get_or c.args.text.now 3 0 ≡ 32 = sym (ap (λ (t : List ℕ). get_or t 3 0) c.as_bytes.ensures.value) ∙ space in
    IsCharBoundary-after_ascii c.args.text.now 3 c.utf8.text within (omega (arith, is))

pub returns-clause-text : goal.returns-clause-text
returns-clause-text c =
    let at : (k : ℕ) → get_or c.args.text.now k 0 ≡ get_or c.as_bytes.result.now k 0 = λ k. sym (ap (λ (t : List ℕ). get_or t k 0) c.as_bytes.ensures.value) in
    let long : 4 ≤ length c.args.text.now = omega (arith, ap length c.as_bytes.ensures.value, c.in-119.len_at_least) in
    four_parts c.args.text.now c.split_at.result.1.now _ _ _ _ long c.split_at.ensures.back (omega (arith, at 0)) (omega (arith, at 1)) (omega (arith, at 2)) (omega (arith, at 3))
    ∙ sym (front_is c.split_at.result.1.now _ (omega arith))
