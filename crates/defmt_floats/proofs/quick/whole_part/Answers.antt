use Rattle.std.proofs.Common.{◌/◌, ◌%◌, ◌^◌, sym, arith, pow_pos, div-add-mod'}
use Rattle.std.proofs.lemmas.Nat.{and_mask, one_shl}
use Rattle.defmt_floats.proofs.Products.{part_exact, part_between}
use Rattle.defmt_floats.proofs.quick.whole_part.Goals as goal

pub returns-then-exact-clause-are : goal.returns-then-exact-clause-are
returns-then-exact-clause-are c = λ num den D fixed.
    let h = c.args.upper in
    let w = 2 ^ c.args.shift in
    let none = rw (one_shl c.args.shift 128 c.requires, and_mask h c.args.shift) at c.if-rest-eq0.true in
    part_exact num den h (h / w) w D (pow_pos c.args.shift) (omega (arith, div-add-mod' h w, none)) (fixed.same c.if-exact.true)

pub returns-clause-are : goal.returns-clause-are
returns-clause-are c = λ num den D fixed.
    let h = c.args.upper in
    let w = 2 ^ c.args.shift in
    let some = rw (one_shl c.args.shift 128 c.requires, and_mask h c.args.shift) at c.if-rest-eq0-2.false in
    let two = rw (one_shl c.args.shift 128 c.requires, and_mask h c.args.shift) at c.if-unit-rest-lt-LACK.false in
    part_between num den h (h / w) (h % w) w D (sym (div-add-mod' h w)) (omega (arith, some)) (omega (arith, two)) fixed.from fixed.below
