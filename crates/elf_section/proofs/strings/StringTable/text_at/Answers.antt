use Rattle.std.proofs.Common.{◌≡◌, ◌∙◌, ap, sym, arith, ℕ, Some, take, drop, get_or, ◌-◌, ◌+◌, ◌*◌, ◌/◌}
use Rattle.std.proofs.lemmas.Grind.{get_or_default_zero}
use Rattle.elf_section.specs.Bytes.{gap, text_at}
use Rattle.elf_section.proofs.StringLaws.{text_ends, text_endless, text_past, gap_stop}
use Rattle.elf_section.proofs.strings.StringTable.text_at.Goals as goal

pub returns-then-at-self : goal.returns-then-at-self
returns-then-at-self c = sym (ap (text_at c.args.at) (sym c.self.view_is) ∙ text_past c.args.at c.self.inside.bytes.now (omega arith))

pub gap_from-requires-clause-after : goal.gap_from-requires-clause-after
gap_from-requires-clause-after c =
    let b : c.index.result.now ≡ get_or c.self.inside.gaps.items (c.args.at / 64) 0 = c.index.ensures ∙ get_or_default_zero c.self.inside.gaps.items (c.args.at / 64) c.index.result.now (let n = c.self.invariant.count in omega (arith, n)) in
    let e = c.self.invariant.each (c.args.at / 64) (let n = c.self.invariant.count in omega (arith, n)) in
    b ∙ e ∙ sym (ap (λ (n : ℕ). gap (drop n c.self.inside.bytes.now)) c.min-stop.ensures ∙ gap_stop c.self.inside.bytes.now (64 * (c.args.at / 64 + 1)))

pub returns-then-end-self : goal.returns-then-end-self
returns-then-end-self c =
    let l = c.if-end-self.true in
    let n : c.args.at + c.gap_from.result - c.args.at ≡ c.gap_from.result = omega arith in
    ap (λ (m : ℕ). Some (take m (drop c.args.at c.self.inside.bytes.now))) n
    ∙ sym (text_ends c.self.inside.bytes.now c.args.at c.gap_from.result c.gap_from.ensures.value (omega arith))
    ∙ ap (text_at c.args.at) c.self.view_is

pub returns-else-end-self : goal.returns-else-end-self
returns-else-end-self c = sym (text_endless c.self.inside.bytes.now c.args.at c.gap_from.result c.gap_from.ensures.value (omega arith)) ∙ ap (text_at c.args.at) c.self.view_is
