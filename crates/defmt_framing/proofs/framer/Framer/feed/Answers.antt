use Rattle.std.proofs.Common.{◌≡◌, ◌<◌, length, take, List, ℕ, None, Some, false, sym, ◌∙◌, ap, subst, arith}
use Rattle.std.proofs.lemmas.Bool.{eqb-true, eqb-false}
use Rattle.defmt_framing.specs.Cut.{has_zero}
use Rattle.defmt_framing.specs.Framing.{Framing, Hears}
use Rattle.defmt_framing.proofs.Standing.{all_parts, some_parts, goes_on}
use Rattle.defmt_framing.proofs.framer.Framer.feed.Goals as goal

pub returns-then-is_empty-clause-hears : goal.returns-then-is_empty-clause-hears
returns-then-is_empty-clause-hears g c stream st =
    let t = g.T.Teller.tells c.args.teller.now in
    let no_zero : has_zero c.split_at-2.result.0.now ≡ false = ap has_zero {y = take c.until_zero-size.result c.split_at.result.1.now} c.split_at-2.ensures.front ∙ c.until_zero-size.ensures.none in
    let none : length c.split_at-2.result.1.now ≡ 0 = eqb-true _ 0 (sym c.is_empty.ensures ∙ c.if-is_empty.true) in
    subst (λ (taken : List ℕ). Hears t c.go_on.new.self stream taken None)
    (all_parts c.args.bytes.now c.split_at.result.1.now c.split_at-2.result.0.now c.split_at-2.result.1.now c.skip-skipped.result c.until_zero-size.result
    c.skip-skipped.ensures.zeros c.split_at.ensures.back c.split_at-2.ensures.front c.split_at-2.ensures.back none)
    (goes_on t c.args.self.now c.go_on.new.self stream c.split_at-2.result.0.now c.skip-skipped.result st (λ open_. c.skip-skipped.ensures.only (λ e. open_ (sym (ap (λ (b : Framing). b.since) c.self.view_is) ∙ e))) no_zero c.in_ok-go_on.ensures.hears)

pub returns-clause-hears : goal.returns-clause-hears
returns-clause-hears g c stream st =
    let t = g.T.Teller.tells c.args.teller.now in
    let size : c.until_zero-size.result < length c.split_at.result.1.now =
    (let some : length c.split_at-2.result.1.now ≡ 0 → ⊥ = eqb-false _ 0 (sym c.is_empty.ensures ∙ c.if-is_empty.false) in omega (arith, c.split_at-2.ensures.back_len)) in
    subst (λ (taken : List ℕ). Hears t c.close.new.self stream taken (Some c.in_ok-told.told))
    (some_parts c.args.bytes.now c.split_at.result.1.now c.split_at-2.result.0.now c.skip-skipped.result c.until_zero-size.result
    c.skip-skipped.ensures.within c.skip-skipped.ensures.zeros c.split_at.ensures.back c.split_at-2.ensures.front size (c.until_zero-size.ensures.zero size))
    (c.in_ok-told.ensures.hears stream st)
