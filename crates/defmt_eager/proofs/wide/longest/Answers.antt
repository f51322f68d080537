use Rattle.std.proofs.Common.{◌≤◌, arith}
use Rattle.defmt_eager.proofs.Whole.{values_more}
use Rattle.defmt_eager.proofs.wide.longest.Goals as goal

pub each-preserved : goal.each-preserved
each-preserved c = λ t n few low h.
    let first : c.leaf_bound.result ≤ n = omega (arith, few) in
    let others : c.each.most ≤ n = omega (arith, few) in
    c.each.invariant t n others low
    (values_more t c.each.rest.now c.in-Some.more.now c.in-Some.value.now c.leaf_bound.result n c.in-Some.ensures first (c.leaf_bound.ensures t (omega (arith, first, low))) h)
