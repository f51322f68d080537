use Rattle.std.proofs.Common.{◌+◌, ◌-◌, ◌*◌, ◌^◌, ◌<◌, arith}
use Rattle.defmt_floats.proofs.LimbLaws.{place_below, skipped, stepped}
use Rattle.defmt_floats.proofs.leading.digits_of.Goals as goal

pub overflow_add-place : goal.overflow_add-place
overflow_add-place c =
    let l = c.loop-digits in
    let p = place_below _ l.place l.digits _ _ (10 ^ 19) 652 c.requires.less.0 l.invariant.parts l.invariant.less (omega arith) c.requires.far in
    record { fits = omega arith }

pub loop-digits-smaller-then-is_less : goal.loop-digits-smaller-then-is_less
loop-digits-smaller-then-is_less c =
    let l = c.loop-digits in
    let p = place_below _ l.place l.digits _ _ (10 ^ 19) 652 c.requires.less.0 l.invariant.parts l.invariant.less (omega arith) c.requires.far in
    let d : 700 - (l.place + 18) < 700 - l.place = omega arith in d

pub loop-digits-preserved-then-is_less : goal.loop-digits-preserved-then-is_less
loop-digits-preserved-then-is_less c =
    let l = c.loop-digits in
    let s = skipped _ l.place l.digits _ _ _ _ l.invariant.parts c.if-digits-eq0.true (omega (arith, c.multiply_add.ensures)) (c.is_less.ensures.0 c.if-is_less.true) c.requires.tenths in
    record { parts = s.0; less = s.1; few = l.invariant.few }

pub overflow_add-place-else-digits-eq0 : goal.overflow_add-place-else-digits-eq0
overflow_add-place-else-digits-eq0 c =
    let l = c.loop-digits in
    let p = place_below _ l.place l.digits _ _ (10 ^ 19) 652 c.requires.less.0 l.invariant.parts l.invariant.less (omega arith) c.requires.far in
    record { fits = omega arith }

pub loop-digits-smaller : goal.loop-digits-smaller
loop-digits-smaller c =
    let l = c.loop-digits in
    let p = place_below _ l.place l.digits _ _ (10 ^ 19) 652 c.requires.less.0 l.invariant.parts l.invariant.less (omega arith) c.requires.far in
    let d : 700 - (l.place + 1) < 700 - l.place = omega arith in d

pub loop-digits-preserved : goal.loop-digits-preserved
loop-digits-preserved c =
    let l = c.loop-digits in
    let n = c.next_digit.ensures in
    let few : l.digits * 10 + c.next_digit.result < 10 ^ 19 = omega arith in
    record { parts = stepped _ l.place l.digits _ _ _ _ l.invariant.parts n.parts; less = n.less; few = few }
