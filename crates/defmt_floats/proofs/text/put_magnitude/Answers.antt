use Rattle.std.proofs.Common.{ℕ, List, ◌++◌, ap, ◌∙◌, arith}
use Rattle.defmt_floats.proofs.TextLaws.{infinite, none, finite}
use Rattle.defmt_floats.proofs.text.put_magnitude.Goals as goal

pub returns-then-bits-INFINITY_BITS : goal.returns-then-bits-INFINITY_BITS
returns-then-bits-INFINITY_BITS g c =
    let i = c.INFINITY_BITS.ensures ∙ g.met.F.RawFloat.infinity_is in
    c.push_str.ensures.bytes ∙ ap (λ (t : List ℕ). c.args.text.now.bytes ++ t) (infinite g.F.RawFloat.format c.args.bits (omega (arith, i, c.if-bits-INFINITY_BITS.true)))

pub returns-then-bits-eq0 : goal.returns-then-bits-eq0
returns-then-bits-eq0 g c =
    let i = c.INFINITY_BITS.ensures ∙ g.met.F.RawFloat.infinity_is in
    c.push_str-then-bits-eq0.ensures.bytes ∙ ap (λ (t : List ℕ). c.args.text.now.bytes ++ t) (none g.F.RawFloat.format c.args.bits (λ e. omega (arith, i, e, c.if-bits-INFINITY_BITS.false)) c.if-bits-eq0.true)

pub returns-else-bits-eq0 : goal.returns-else-bits-eq0
returns-else-bits-eq0 g c =
    let i = c.INFINITY_BITS.ensures ∙ g.met.F.RawFloat.infinity_is in
    c.put_number.ensures ∙ ap (λ (t : List ℕ). c.args.text.now.bytes ++ t) (finite g.F.RawFloat.format c.args.bits (λ e. omega (arith, i, e, c.if-bits-INFINITY_BITS.false)) c.if-bits-eq0.false)
