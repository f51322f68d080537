use Rattle.std.proofs.Common.{◌≡◌, ◌+◌, ◌*◌, ◌/◌, ◌%◌, ◌-◌, ◌^◌, ℕ, ap, ◌∙◌, arith}
use Rattle.defmt_plan.proofs.Fields.{shifted}
use Rattle.defmt_plan.proofs.bits.field_of.Goals as goal

pub returns : goal.returns
returns c =
    let sent : ℕ = c.args.sent in
    let first : ℕ = c.args.field.first in
    let lo : ℕ = c.args.field.lo in
    let d : ℕ = c.from-lo.result - 8 * c.from-unsent.result in
    let e : lo ≡ 8 * first + d = omega arith in
    let s : c.saturating_sub.result ≡ c.args.field.hi - lo = omega arith in
    c.low.ensures ∙ ap (λ (n : ℕ). n % 2 ^ c.saturating_sub.result) (c.in_ok-rest.ensures ∙ shifted sent first lo d e) ∙ ap (λ (k : ℕ). sent * 256 ^ first / 2 ^ lo % 2 ^ k) s
