-- What contracts see of a place in a program that logs.
use Rattle.std.specs.Prelude.{ℕ, List}
use Rattle.defmt_grammar.specs.declared.slot.Slot.{Slot}
use Rattle.defmt_intern.specs.declared.entry.Tag.{Tag}

-- the index of its entry, the entry's tag and the slots of the entry's text
pub record Spot : Type 0 where
  pub index : ℕ
  pub tag : Tag
  pub slots : List Slot
