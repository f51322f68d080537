use Rattle.std.proofs.Common.{◌≡◌, ◌-◌, ◌*◌, ◌%◌, ◌^◌, ap, ◌∙◌, arith, mod-eq_of_lt}
use lib.Ieee.{low}
use Rattle.fast_float.proofs.ExactLemmas.{ten_to_pos}
use Rattle.defmt_floats.specs.Shortest.{tens, exponent}
use Rattle.defmt_floats.proofs.Products.{leading_whole, small_shift, small_ten}
use Rattle.defmt_floats.proofs.whole.whole_digits.Goals as goal

pub pow-requires : goal.pow-requires
pow-requires g c = small_ten _ (omega arith)

pub cut_off-requires : goal.cut_off-requires
cut_off-requires g c = rw c.pow.ensures (ten_to_pos _)

pub returns : goal.returns
returns g c =
    let f = g.F.RawFloat.format in
    let t = c.TENS-tens.ensures ∙ g.met.F.Kind.tens_is in
    let l = c.LOWEST-lowest.ensures ∙ g.met.F.RawFloat.lowest_is in
    let a = c.args in
    let shift = a.power - c.LOWEST-lowest.result in
    let less = c.TENS-tens.result - a.place in
    let up : shift ≡ exponent f a.bits - low f = omega (arith, l, c.requires.parts.1) in
    let down : less ≡ tens f - a.place = omega (arith, t) in
    let whole = ap (λ x. x * 2 ^ shift % 2 ^ 128) c.from.ensures ∙ mod-eq_of_lt (small_shift a.number shift c.requires.small (omega arith)) ∙ ap (λ s. a.number * 2 ^ s) up in
    let unit = c.pow.ensures ∙ ap (λ s. 10 ^ s) down in
    leading_whole f a.bits a.place a.number _ _ c.cut_off.result c.requires.parts.0 (omega (arith, l, c.requires.parts.1)) (c.requires.place, omega (arith, t)) whole unit c.cut_off.ensures.sizes c.cut_off.ensures.are
