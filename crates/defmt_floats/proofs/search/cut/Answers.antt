use Rattle.std.proofs.Common.{◌≡◌, suc, ◌+◌, ◌-◌, ◌*◌, ◌^◌, arith, sym, ap, ◌∙◌, pow-suc, refl}
use Rattle.fast_float.proofs.ExactLemmas.{ten_to_pos}
use Rattle.defmt_floats.specs.Shortest.{most_digits, is_found, first_from}
use Rattle.defmt_floats.proofs.Places.{front, sizes_cut, few_digits, first_place_at, last_place_is, first_fails, first_passes, first_none}
use Rattle.defmt_floats.proofs.search.cut.Goals as goal

pub loop-cut-init : goal.loop-cut-init
loop-cut-init g c =
    let f = g.F.RawFloat.format in
    let few = few_digits f in
    let count : 18 + most_digits f - 19 ≡ most_digits f - 1 = omega arith in
    record {
      unit = refl;
      sizes = omega arith;
      same = rw (count, ← first_place_at f _ _ _ _ c.requires) (last_place_is f _);
    }

pub nonzero_div-leading : goal.nonzero_div-leading
nonzero_div-leading g c = rw c.loop-cut.invariant.unit (ten_to_pos _)

pub is_one_found-requires-clause-digits : goal.is_one_found-requires-clause-digits
is_one_found-requires-clause-digits g c =
    let few = few_digits g.F.RawFloat.format in
    rw c.loop-cut.invariant.unit (sizes_cut _ _ c.requires.sizes.0 c.requires.sizes.1 (omega arith) c.loop-cut.invariant.sizes.1)

pub is_one_found-requires-clause-next_below : goal.is_one_found-requires-clause-next_below
is_one_found-requires-clause-next_below g c =
    rw c.loop-cut.invariant.unit (front g.F.RawFloat.format _ _ _ _ _ c.requires (omega arith))

pub loop-cut-preserved : goal.loop-cut-preserved
loop-cut-preserved g c =
    let f = g.F.RawFloat.format in
    let l = c.loop-cut in
    let v = l.invariant in
    let few = few_digits f in
    let range = c.requires.range in
    let most = c.MOST_DIGITS.ensures ∙ g.met.F.Kind.most_is in
    let again : l.cut ≡ suc (l.cut - 1) = omega (arith, c.loop-cut-test.true) in
    let ten : 10 ^ l.cut ≡ 10 ^ (l.cut - 1) * 10 = ap (λ x. 10 ^ x) again ∙ pow-suc 10 (l.cut - 1) in
    let fails = sym c.is_one_found.ensures ∙ c.if-not-is_one_found.true in
    let next : c.args.place - (l.cut - 1) ≡ c.args.place - l.cut + 1 = omega (arith, again) in
    let count : l.cut + most_digits f - 19 ≡ suc (l.cut - 1 + most_digits f - 19) = omega (arith, c.loop-cut-test.true) in
    record {
      unit = omega (arith, v.unit);
      sizes = omega (arith, c.loop-cut-test.true);
      same = sym (first_fails (is_found f c.args.bits) _ _ _ _ fails next count) ∙ v.same;
    }

pub returns-else-not-is_one_found-clause-same : goal.returns-else-not-is_one_found-clause-same
returns-else-not-is_one_found-clause-same g c =
    let f = g.F.RawFloat.format in
    let passes = sym c.is_one_found.ensures ∙ c.if-not-is_one_found.false in
    sym (first_passes (is_found f c.args.bits) _ _ passes) ∙ c.loop-cut.invariant.same

pub returns-after-loop-cut-clause-same : goal.returns-after-loop-cut-clause-same
returns-after-loop-cut-clause-same g c =
    let f = g.F.RawFloat.format in
    let l = c.loop-cut in
    let few = few_digits f in
    let most = c.MOST_DIGITS.ensures ∙ g.met.F.Kind.most_is in
    let none : l.cut + most_digits f - 19 ≡ 0 = omega (arith, c.loop-cut-test.false) in
    sym (first_none (is_found f c.args.bits) _) ∙ ap (λ n. first_from (is_found f c.args.bits) (c.args.place - l.cut) n) (sym none) ∙ l.invariant.same
