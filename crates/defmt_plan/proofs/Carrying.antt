-- One part of a message behind another.
use Rattle.std.proofs.Common.{◌≤◌, ℕ, List, [], ◌++◌, length, drop, refl, sym, ap, ◌∙◌, append_assoc}
use Rattle.defmt_plan.specs.Carried.{Carried}

pub carried_two : (xs : List ℕ) (at mid end : ℕ) (a b : List ℕ) → Carried xs at mid a → Carried xs mid end b → Carried xs at end (a ++ b)
carried_two xs at mid end a b c d = record {
  within = d.within;
  parts = c.parts ∙ ap (λ (t : List ℕ). a ++ t) d.parts ∙ sym (append_assoc a b (drop end xs));
}

pub carried_none : (xs : List ℕ) (at : ℕ) → at ≤ length xs → Carried xs at at []
carried_none xs at le = record { within = le; parts = refl }
