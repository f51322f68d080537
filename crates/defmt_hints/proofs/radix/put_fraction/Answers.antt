use Rattle.std.proofs.Common.{ℕ, ◌≡◌, ◌++◌, ◌+◌, ◌≤◌, ◌/◌, ◌%◌, length, codes, arith, refl, ap, ◌∙◌}
use Rattle.std.specs.Fmt.{decimal}
use Rattle.defmt_hints.proofs.PartsLaws.{unit_some}
use Rattle.defmt_hints.specs.Digits.{zero_filled}
use Rattle.defmt_hints.specs.Printed.{fraction_text, decimal_text}
use Rattle.defmt_hints.proofs.Chains.{written_two, full_behind, full_front}
use Rattle.defmt_hints.proofs.Fractions.{parts_few, parts_long, point_written, sum_fits}
use Rattle.defmt_hints.proofs.radix.put_fraction.Goals as goal

pub divided-whole-requires : goal.divided-whole-requires
divided-whole-requires c = unit_some c.args.unit c.args.places c.requires.unit

pub returns-in_err-point : goal.returns-in_err-point
unfolding fraction_text
returns-in_err-point c = rw c.from_residual.ensures (full_front _ _ _ (decimal_text (c.args.number / c.args.unit)) _ (rw c.divided-whole.ensures.quotient at c.in_err-point.ensures))

pub returns-then-out-point : goal.returns-then-out-point
unfolding fraction_text
returns-then-out-point c =
    let part : ℕ = c.args.number % c.args.unit in
    let long : length (codes "." ++ zero_filled c.args.places (decimal_text part)) ≡ c.args.places + 1 = parts_long c.args.places part c.requires.some (parts_few c.args.unit c.args.places c.args.number c.requires.unit) in
    full_behind c.args.out.now c.put_wide_decimal.new.out c.put_wide_decimal.new.out c.args.at c.in_ok-point.point (decimal_text (c.args.number / c.args.unit)) (codes "." ++ zero_filled c.args.places (decimal_text part)) c.requires.place (rw c.divided-whole.ensures.quotient at c.in_ok-point.ensures)
    (record { kept = record { long = refl; front = refl }; over = omega (arith, long, c.from-count.ensures) })

pub write_digits-requires : goal.write_digits-requires
write_digits-requires c =
    let long : length (decimal (c.args.unit + c.divided-whole.result.1)) ≡ c.args.places + 1 =
    ap (λ (p : ℕ). length (decimal (c.args.unit + p))) c.divided-whole.ensures.remainder ∙ sum_fits c.args.unit c.args.places c.args.number c.requires.some c.requires.unit c.requires.small in
    (omega (arith, long, c.from-count.ensures), omega arith)

pub returns : goal.returns
unfolding fraction_text
returns c =
    let within : c.in_ok-point.point ≤ length c.put_wide_decimal.new.out = omega (arith, c.in_ok-point.ensures.within, c.in_ok-point.ensures.long) in
    written_two c.args.out.now c.put_wide_decimal.new.out _ c.args.at c.in_ok-point.point _ (decimal_text (c.args.number / c.args.unit)) (codes "." ++ zero_filled c.args.places (decimal_text (c.args.number % c.args.unit))) (rw c.divided-whole.ensures.quotient at c.in_ok-point.ensures)
    (point_written c.args.unit c.args.places c.args.number c.in_ok-point.point c.write_digits.result _ c.put_wide_decimal.new.out c.write_digits.new.buf _ c.requires.some c.requires.unit c.requires.small within (omega arith) (omega (arith, c.from-count.ensures)) c.write_digits.auto.buf
    (rw c.divided-whole.ensures.remainder at c.write_digits.ensures.start) (rw c.divided-whole.ensures.remainder at c.write_digits.ensures.written) c.write_digits.ensures.before refl)
