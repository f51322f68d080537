use Rattle.std.proofs.Common.{ℕ, List, ◌++◌, ap, ◌∙◌, arith}
use Rattle.defmt_floats.proofs.TextLaws.{laid_pointed, laid_great, laid_behind, laid_small}
use Rattle.defmt_floats.proofs.layout.put_laid_out.Goals as goal

pub returns-then-before-WHOLE_DIGITS : goal.returns-then-before-WHOLE_DIGITS
returns-then-before-WHOLE_DIGITS g c =
    let f = g.F.RawFloat.format in
    let t = c.TENS.ensures ∙ g.met.F.Kind.tens_is in
    let w = c.WHOLE_DIGITS.ensures ∙ g.met.F.Kind.whole_is in
    c.put_pointed.ensures ∙ ap (λ (t : List ℕ). c.args.text.now.bytes ++ t) (laid_pointed f c.args.digits.now c.args.place _ (omega (arith, t, c.if-place-end.true)) (omega (arith, t)) (omega (arith, w, c.if-before-WHOLE_DIGITS.true)))

pub returns-else-before-WHOLE_DIGITS : goal.returns-else-before-WHOLE_DIGITS
returns-else-before-WHOLE_DIGITS g c =
    let f = g.F.RawFloat.format in
    let t = c.TENS.ensures ∙ g.met.F.Kind.tens_is in
    let w = c.WHOLE_DIGITS.ensures ∙ g.met.F.Kind.whole_is in
    c.put_scientific.ensures ∙ ap (λ (t : List ℕ). c.args.text.now.bytes ++ t) (laid_great f c.args.digits.now c.args.place _ (omega (arith, t, c.if-place-end.true)) (omega (arith, t)) (omega (arith, w, c.if-before-WHOLE_DIGITS.false)))

pub returns-then-behind-LEADING_ZEROS : goal.returns-then-behind-LEADING_ZEROS
returns-then-behind-LEADING_ZEROS g c =
    let f = g.F.RawFloat.format in
    let t = c.TENS.ensures ∙ g.met.F.Kind.tens_is in
    let z = c.LEADING_ZEROS.ensures ∙ g.met.F.Kind.zeros_is in
    c.put_fraction.ensures ∙ ap (λ (t : List ℕ). c.args.text.now.bytes ++ t) (laid_behind f c.args.digits.now c.args.place _ (omega (arith, t, c.if-place-end.false)) (omega (arith, t)) (omega (arith, z, c.if-behind-LEADING_ZEROS.true)))

pub returns-else-behind-LEADING_ZEROS : goal.returns-else-behind-LEADING_ZEROS
returns-else-behind-LEADING_ZEROS g c =
    let f = g.F.RawFloat.format in
    let t = c.TENS.ensures ∙ g.met.F.Kind.tens_is in
    let z = c.LEADING_ZEROS.ensures ∙ g.met.F.Kind.zeros_is in
    c.put_scientific-else-behind-LEADING_ZEROS.ensures ∙ ap (λ (t : List ℕ). c.args.text.now.bytes ++ t) (laid_small f c.args.digits.now c.args.place _ (omega (arith, t, c.if-place-end.false)) (omega (arith, t)) (omega (arith, z, c.if-behind-LEADING_ZEROS.false)))
