use Rattle.std.proofs.Common.{◌<◌, ◌+◌, ◌-◌, arith, refl}
use Rattle.defmt_hints.proofs.Filling.{filling_more, filling_all, filling_room, filled_size}
use Rattle.defmt_hints.proofs.radix.put_digits.Goals as goal

pub returns-then-out-at : goal.returns-then-out-at
returns-then-out-at c = record {
  kept = record { long = refl; front = refl };
  over = omega (arith, filled_size c.args.base c.args.upper c.args.number c.args.width c.max-long.result c.requires.least (omega (arith, c.max-long.ensures, c.max.ensures, c.from.ensures, c.count_in.ensures.count)));
}

pub overflow_sub-place : goal.overflow_sub-place
overflow_sub-place c = omega (arith, filling_room _ _ _ _ _ _ _ _ _ c.wide.invariant c.requires.least (omega arith))

pub wide-smaller : goal.wide-smaller
wide-smaller c = omega (arith, filling_room _ _ _ _ _ _ _ _ _ c.wide.invariant c.requires.least (omega arith))

pub wide-preserved : goal.wide-preserved
wide-preserved c =
    let room : c.args.at < c.wide.place = filling_room _ _ _ _ _ _ _ _ _ c.wide.invariant c.requires.least (omega arith) in
    rw c.from-by.ensures (filling_more c.args.base c.args.upper c.args.number c.args.out.now c.args.at (c.args.at + c.max-long.result) c.wide.place c.wide.wide c.wide.out (c.wide.place - 1) c.glyph.result c.wide.invariant c.requires.least (omega arith) room (omega arith) (rw c.from-by.ensures at c.glyph.ensures))

pub digits-preserved : goal.digits-preserved
digits-preserved c =
    filling_more c.args.base c.args.upper c.args.number c.args.out.now c.args.at (c.args.at + c.max-long.result) c.digits.place c.digits.rest c.digits.out (c.digits.place - 1) c.glyph-in-digits.result c.digits.invariant c.requires.least (omega arith) (omega arith) (omega arith) c.glyph-in-digits.ensures

pub returns : goal.returns
returns c =
    filling_all c.args.base c.args.upper c.args.number c.args.width c.args.out.now c.args.at (c.args.at + c.max-long.result) c.digits.place c.digits.rest c.digits.out c.digits.invariant c.requires.least (omega arith) (omega arith) (omega arith) (omega (arith, c.max-long.ensures, c.max.ensures, c.from.ensures, c.count_in.ensures.count))
