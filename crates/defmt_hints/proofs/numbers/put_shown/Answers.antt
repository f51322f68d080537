use Rattle.std.proofs.Common.{◌-◌, ℕ, List, codes, refl, sym, subst}
use Rattle.defmt_hints.specs.Printed.{decimal_text}
use Rattle.defmt_hints.proofs.Chains.{writes_two}
use Rattle.defmt_hints.proofs.Complements.{negative}
use Rattle.defmt_hints.specs.Written.{Writes}
use Rattle.defmt_hints.proofs.numbers.put_shown.Goals as goal

pub returns : goal.returns
returns c = λ z s e.
    subst (λ (t : List ℕ). Writes c.put_decimal-2.result c.args.out.now c.args.at c.put_decimal-2.new.out t) (sym (negative c.args.size c.in-Some.half c.args.number _ z c.in-Some.ensures.half c.if-number-half.false s e refl))
    (writes_two c.put_decimal-2.result c.args.out.now c.put.new.out c.put_decimal-2.new.out c.args.at c.in_ok-digits.digits (codes "-") (decimal_text (c.in-Some.half - (c.args.number - c.in-Some.half))) c.requires.place c.in_ok-digits.ensures c.put_decimal-2.ensures)
