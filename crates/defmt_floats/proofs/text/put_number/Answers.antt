use Rattle.std.proofs.Common.{ℕ, List, ◌++◌, ◌/◌, ap, ◌∙◌, arith}
use Rattle.std.proofs.lemmas.Fmt.{length-decimal-le}
use Rattle.defmt_floats.specs.Shortest.{most_digits}
use Rattle.defmt_floats.proofs.TextLaws.{few, number_ten, number_other}
use Rattle.defmt_floats.proofs.text.put_number.Goals as goal

pub put_decimal-requires-clause-sizes : goal.put_decimal-requires-clause-sizes
put_decimal-requires-clause-sizes g c =
    let f = g.F.RawFloat.format in
    let bounds = few f in
    let s = c.shortest-digits in
    length-decimal-le (most_digits f) (s.result.0 / 10) (omega arith) (omega arith) (omega arith)

pub put_decimal-requires-else-digits-eq0-clause-sizes : goal.put_decimal-requires-else-digits-eq0-clause-sizes
put_decimal-requires-else-digits-eq0-clause-sizes g c =
    let f = g.F.RawFloat.format in
    let bounds = few f in
    let s = c.shortest-digits in
    length-decimal-le (most_digits f) s.result.0 (omega arith) (omega (arith, c.if-digits-eq0.false)) (omega arith)

pub returns-then-digits-eq0 : goal.returns-then-digits-eq0
returns-then-digits-eq0 g c =
    let s = c.shortest-digits in
    c.put_decimal.ensures ∙ ap (λ (t : List ℕ). c.args.text.now.bytes ++ t) (number_ten g.F.RawFloat.format c.args.bits s.result.0 s.result.1 s.ensures.digits s.ensures.place c.if-digits-eq0.true)

pub returns-else-digits-eq0 : goal.returns-else-digits-eq0
returns-else-digits-eq0 g c =
    let s = c.shortest-digits in
    c.put_decimal-else-digits-eq0.ensures ∙ ap (λ (t : List ℕ). c.args.text.now.bytes ++ t) (number_other g.F.RawFloat.format c.args.bits s.result.0 s.result.1 s.ensures.digits s.ensures.place c.if-digits-eq0.false)
