use Rattle.std.proofs.Common.{◌≡◌, ◌+◌, ◌-◌, ◌*◌, ◌%◌, ◌^◌, ◌≤◌, ◌&&◌, Bool, IsTrue, leb, ◌∙◌, arith, mod-eq_of_lt}
use Rattle.std.proofs.lemmas.Bool.{and_parts, leb-true}
use lib.Ieee.{low}
use Rattle.fast_float.specs.Powers.{power_scale}
use Rattle.defmt_floats.specs.Shortest.{tens, exponent}
use Rattle.defmt_floats.proofs.Places.{few_tens}
use Rattle.defmt_floats.proofs.Products.{fixed_is, leading_of}
use Rattle.defmt_floats.proofs.quick.product_digits.Goals as goal

pub returns : goal.returns
returns g c =
    let f = g.F.RawFloat.format in
    let t = c.TENS.ensures ∙ g.met.F.Kind.tens_is in
    let few = few_tens f in
    let l = c.LOWEST-above.ensures ∙ g.met.F.RawFloat.lowest_is in
    let a = c.args in
    let row = a.place + 342 - c.TENS.result in
    let scale = power_scale row in
    let shift = c.LOWEST-above.result + 1213 - (a.power + scale) in
    let p = c.product-upper in
    let whole : a.number * 2 ^ 11 % 2 ^ 64 ≡ a.number * 2 ^ 11 = mod-eq_of_lt (omega (arith, c.requires.small)) in
    let exact : Bool = p.result.1 && leb 342 row && leb scale 1266 in
    let row_is : row + tens f ≡ a.place + 342 = omega (arith, t, c.requires.place) in
    let bits_are : exponent f a.bits + shift + 64 + scale ≡ 11 + 1266 + low f = omega (arith, l, c.requires.parts.1, c.if-above-below.false) in
    let same : IsTrue exact → (a.number * 2 ^ 11 * c.power_of_ten.result ≡ p.result.0 * 2 ^ 64) × (342 ≤ row) × (scale ≤ 1266) = λ (x : IsTrue exact).
    let two = and_parts _ _ x in
    let one = and_parts _ _ two.0 in
    (rw whole at p.ensures.same one.0, leb-true _ _ one.1, leb-true _ _ two.1) in
    let fixed = fixed_is f a.bits a.place row shift a.number c.power_of_ten.result p.result.0 exact c.requires.parts.0 row_is bits_are c.requires.small.0 c.requires.small.1 c.power_of_ten.ensures (rw whole at p.ensures.from) (rw whole at p.ensures.below) same in
    leading_of f a.bits a.place shift p.result.0 exact c.whole_part.result fixed (c.requires.place.0, omega (arith, c.requires.place)) c.whole_part.ensures.sizes c.whole_part.ensures.are
