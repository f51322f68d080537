use Rattle.std.proofs.Common.{◌≡◌, subst, ◌+◌, arith, refl, List, ℕ, length, ap}
use Rattle.std.specs.Fmt.{decimal}
use Rattle.defmt_hints.proofs.Decimals.{std_decimal}
use Rattle.defmt_hints.specs.Printed.{decimal_text}
use Rattle.defmt_hints.proofs.Places.{written_here}
use Rattle.defmt_hints.specs.Written.{Written}
use Rattle.defmt_hints.proofs.numbers.put_all_digits.Goals as goal

pub returns-then-out-at : goal.returns-then-out-at
returns-then-out-at c = record { kept = record { long = refl; front = refl }; over = omega (arith, ap length (std_decimal c.args.number (omega arith))) }

pub returns : goal.returns
returns c =
    let e : decimal c.args.number ≡ decimal_text c.args.number = std_decimal c.args.number (omega arith) in
    subst (λ (t : List ℕ). Written c.args.out.now c.args.at c.write_digits.new.buf (c.args.at + c.digit_count-count.result) t) e
    (written_here c.args.out.now c.write_digits.new.buf (decimal c.args.number) c.args.at c.write_digits.result (c.args.at + c.digit_count-count.result) (omega arith) (omega arith) c.write_digits.auto.buf (omega arith) c.write_digits.ensures.start c.write_digits.ensures.written c.write_digits.ensures.before)
