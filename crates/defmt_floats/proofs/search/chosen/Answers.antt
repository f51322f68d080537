use Rattle.std.proofs.Common.{cond, ◌&&◌, ap₂, ◌≡◌, ◌+◌, ◌-◌, ◌/◌, arith, sym, ap, ◌∙◌}
use Rattle.fast_float.proofs.ExactLemmas.{ten_to_pos}
use Rattle.defmt_floats.specs.Shortest.{below, is_above_nearer}
use Rattle.defmt_floats.proofs.Places.{front, few_cut, takes_above, takes_nearer}
use Rattle.defmt_floats.proofs.search.chosen.Goals as goal
use Rattle.defmt_floats.proofs.search.chosen.Goals.{else-is_read_as-via-then-is_read_as+else-is_above_nearer, else-is_read_as-via-else-is_read_as}

pub nonzero_div-decimal : goal.nonzero_div-decimal
nonzero_div-decimal g c = rw c.cut-cut.ensures.unit (ten_to_pos _)

pub is_read_as-requires-clause-digits : goal.is_read_as-requires-clause-digits
is_read_as-requires-clause-digits g c =
    let s = c.cut-cut.ensures.sizes in
    rw c.cut-cut.ensures.unit (few_cut g.F.RawFloat.format _ _ c.requires.sizes.0 c.requires.sizes.1 s.0 s.1).0

pub returns-then-not-is_read_as-clause-digits : goal.returns-then-not-is_read_as-clause-digits
returns-then-not-is_read_as-clause-digits g c =
    let f = g.F.RawFloat.format in
    let k = c.cut-cut in
    let s = k.ensures.sizes in
    let d : c.args.leading / k.result.1 ≡ below f c.args.bits (c.args.place - k.result.0) = rw k.ensures.unit (front f _ _ _ _ _ c.requires (omega (arith, c.requires.range))) in
    takes_above f _ _ _ k.ensures.same d (sym c.is_read_as.ensures ∙ c.if-not-is_read_as.true)

pub returns-then-is_above_nearer-clause-digits : goal.returns-then-is_above_nearer-clause-digits
returns-then-is_above_nearer-clause-digits g c =
    let f = g.F.RawFloat.format in
    let k = c.cut-cut in
    let s = k.ensures.sizes in
    let at = c.args.leading / k.result.1 in
    let d : at ≡ below f c.args.bits (c.args.place - k.result.0) = rw k.ensures.unit (front f _ _ _ _ _ c.requires (omega (arith, c.requires.range))) in
    let upper = sym c.is_read_as-2.ensures ∙ c.if-is_read_as.true in
    let closer = sym c.is_above_nearer.ensures ∙ c.if-is_above_nearer.true in
    sym (ap₂ (λ u n. cond (u && n) (at + 1) at) upper closer) ∙ takes_nearer f _ _ _ k.ensures.same d (sym c.is_read_as.ensures ∙ c.if-not-is_read_as.false)

pub returns-else-is_read_as-clause-digits : goal.returns-else-is_read_as-clause-digits
returns-else-is_read_as-clause-digits g c =
    let f = g.F.RawFloat.format in
    let k = c.cut-cut in
    let s = k.ensures.sizes in
    let at = c.args.leading / k.result.1 in
    let i = c.args.place - k.result.0 in
    let d : at ≡ below f c.args.bits i = rw k.ensures.unit (front f _ _ _ _ _ c.requires (omega (arith, c.requires.range))) in
    let is = takes_nearer f _ _ _ k.ensures.same d (sym c.is_read_as.ensures ∙ c.if-not-is_read_as.false) in
    elim c.else-is_read_as.branch [
      | else-is_read_as-via-then-is_read_as+else-is_above_nearer w ↦
          let upper = sym c.is_read_as-2.ensures ∙ w.if-is_read_as.true in
          let closer = sym w.is_above_nearer.ensures ∙ w.if-is_above_nearer.false in
          sym (ap₂ (λ u n. cond (u && n) (at + 1) at) upper closer) ∙ is
      | else-is_read_as-via-else-is_read_as w ↦
          let upper = sym c.is_read_as-2.ensures ∙ w.if-is_read_as.false in
          sym (ap (λ u. cond (u && is_above_nearer f c.args.bits i) (at + 1) at) upper) ∙ is
    ]

pub returns-then-not-is_read_as-clause-few : goal.returns-then-not-is_read_as-clause-few
returns-then-not-is_read_as-clause-few g c =
    let s = c.cut-cut.ensures.sizes in
    let w = few_cut g.F.RawFloat.format c.args.leading c.cut-cut.result.0 c.requires.sizes.0 c.requires.sizes.1 s.0 s.1 in
    rw c.cut-cut.ensures.unit (omega arith, w.1)

pub returns-then-is_above_nearer-clause-few : goal.returns-then-is_above_nearer-clause-few
returns-then-is_above_nearer-clause-few g c =
    let s = c.cut-cut.ensures.sizes in
    let w = few_cut g.F.RawFloat.format c.args.leading c.cut-cut.result.0 c.requires.sizes.0 c.requires.sizes.1 s.0 s.1 in
    rw c.cut-cut.ensures.unit (omega arith, w.1)

pub returns-else-is_read_as-clause-few : goal.returns-else-is_read_as-clause-few
returns-else-is_read_as-clause-few g c =
    let s = c.cut-cut.ensures.sizes in
    let w = few_cut g.F.RawFloat.format c.args.leading c.cut-cut.result.0 c.requires.sizes.0 c.requires.sizes.1 s.0 s.1 in
    rw c.cut-cut.ensures.unit (w.0, omega arith)
