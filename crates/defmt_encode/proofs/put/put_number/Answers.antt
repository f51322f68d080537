use Rattle.std.proofs.Common.{◌≡◌, ◌+◌, ◌-◌, ℕ, length, take, drop, ap, ◌∙◌, arith, length-drop}
use Rattle.std.proofs.lemmas.List.{length-take-le}
use Rattle.byteorder.specs.Endian.{little_bytes}
use Rattle.defmt_encode.proofs.Chain.{one_part}
use Rattle.defmt_encode.proofs.Numbers.{length_little}
use Rattle.defmt_encode.proofs.put.put_number.Goals as goal

pub returns-clause-puts : goal.returns-clause-puts
returns-clause-puts c =
    let k : ℕ = c.args.at + c.from-width.result - c.args.at in
    let size : length (take k (drop c.args.at c.args.out.now)) ≡ c.args.width =
    omega (arith, length-take-le k (drop c.args.at c.args.out.now) (omega (arith, length-drop c.args.at c.args.out.now))) in
    one_part c.args.out.now c.write_low_first.new.bytes (little_bytes c.args.width c.args.n) c.args.at (c.args.at + c.from-width.result)
    (c.write_low_first.ensures ∙ ap (λ (m : ℕ). little_bytes m c.args.n) size)
    (omega (arith, length_little c.args.width c.args.n)) (omega arith) (omega arith)
