use Rattle.std.proofs.Common.{◌+◌, ◌/◌, ◌%◌, ◌∷◌, [], ◌++◌, ℕ, List, set, codes, refl, sym, subst, arith}
use Rattle.itoa.proofs.Decimal.{pair}
use Rattle.defmt_hints.proofs.Chains.{written_two}
use Rattle.defmt_hints.proofs.Fractions.{parts_long}
use Rattle.defmt_hints.proofs.TwoDigits.{byte_written, six_digits}
use Rattle.defmt_hints.specs.Written.{Written}
use Rattle.defmt_hints.proofs.seconds.put_parts.Goals as goal

pub returns-then-out-at-lt-PARTS_LENGTH : goal.returns-then-out-at-lt-PARTS_LENGTH
returns-then-out-at-lt-PARTS_LENGTH c = record { kept = record { long = refl; front = refl }; over = omega (arith, parts_long 6 c.args.parts (omega arith) c.requires.few) }

pub returns : goal.returns
returns c =
    let old : List ℕ = c.args.out.now in
    let at : ℕ = c.args.at in
    let end : ℕ = at + 1 + 2 + 2 + 2 in
    let new : List ℕ = c.write_pair-3.new.buf in
    let high : List ℕ = pair (c.args.parts / 10000) in
    let middle : List ℕ = pair (c.args.parts % 10000 / 100) in
    let last : List ℕ = pair (c.args.parts % 10000 % 100) in
    let behind : Written c.write_pair.new.buf (at + 1 + 2) new end (middle ++ last) =
    written_two c.write_pair.new.buf c.write_pair-2.new.buf new (at + 1 + 2) (at + 1 + 2 + 2) end middle last c.write_pair-2.ensures c.write_pair-3.ensures in
    let digits : Written (set old at 46) (at + 1) new end (high ++ (middle ++ last)) =
    written_two (set old at 46) c.write_pair.new.buf new (at + 1) (at + 1 + 2) end high (middle ++ last) c.write_pair.ensures behind in
    subst (λ (t : List ℕ). Written old at new end (codes "." ++ t)) (sym (six_digits c.args.parts c.requires.few))
    (written_two old (set old at 46) new at (at + 1) end (46 ∷ []) (high ++ (middle ++ last)) (byte_written old at (at + 1) 46 refl (omega arith)) digits)
