use Rattle.std.proofs.Common.{◌%◌, ap, ◌∙◌, arith}
use Rattle.defmt_floats.proofs.TextLaws.{no_number, signed}
use Rattle.defmt_floats.proofs.text.text_of.Goals as goal

pub returns-then-magnitude-INFINITY_BITS : goal.returns-then-magnitude-INFINITY_BITS
returns-then-magnitude-INFINITY_BITS g c =
    let i = c.INFINITY_BITS.ensures ∙ g.met.F.RawFloat.infinity_is in
    let s = c.SIGN_BIT.ensures ∙ g.met.F.Kind.sign_is in
    let same = ap (λ x. c.args.bits % x) s in
    rw c.new-text.ensures at c.push_str.ensures.bytes ∙ no_number g.F.RawFloat.format c.args.bits _ same (omega (arith, i, c.if-magnitude-INFINITY_BITS.true))

pub returns : goal.returns
returns g c =
    let i = c.INFINITY_BITS.ensures ∙ g.met.F.RawFloat.infinity_is in
    let s = c.SIGN_BIT.ensures ∙ g.met.F.Kind.sign_is in
    let same = ap (λ x. c.args.bits % x) s in
    rw c.sign_of-text.ensures.text at c.put_magnitude.ensures ∙ signed g.F.RawFloat.format c.args.bits _ same (omega (arith, i, c.if-magnitude-INFINITY_BITS.false))
