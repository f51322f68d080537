use Rattle.std.proofs.Common.{◌*◌, arith, refl}
use Rattle.elf_section.proofs.StringLaws.{gaps_begin, gap_small}
use Rattle.elf_section.proofs.strings.gaps_of.Goals as goal

pub loop-i-init : goal.loop-i-init
loop-i-init c = gaps_begin c.args.bytes.now c.in_ok-gaps.gaps.items _ refl (let n = c.in_ok-gaps.ensures.len in let o = c.in_ok-gaps.gaps.ok in omega (arith, n, o))

pub overflow_cast-after : goal.overflow_cast-after
overflow_cast-after c =
    let next = c.loop-i.invariant.next in
    let small = gap_small c.args.bytes.now (64 * c.loop-i.i) in
    omega (arith, next, small)
