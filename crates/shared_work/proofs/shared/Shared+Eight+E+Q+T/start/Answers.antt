use Rattle.std.proofs.Common.{◌∙◌, sym}
use Rattle.shared_work.proofs.Counted.{all_zero}
use Rattle.shared_work.proofs.shared.Shared+Eight+E+Q+T.start.Goals as goal

pub invariant_of-locked : goal.invariant_of-locked
invariant_of-locked g c = record {
  counted = λ w.
      all_zero _ _ _ _ _ _ _ _ c.open-b0.ensures.total c.open-b1.ensures.total c.open-b2.ensures.total c.open-b3.ensures.total c.open-b4.ensures.total c.open-b5.ensures.total c.open-b6.ensures.total c.open-b7.ensures.total w
      ∙ sym (c.requires.fresh w);
}
