-- Values that a slot takes whatever stands in the table.
use Rattle.std.specs.Prelude.{◌≡◌, ℕ, List, Ok, Option, None, Some}
use Rattle.std.specs.Borrow.{Bor}
use Rattle.defmt_grammar.specs.declared.slot.Slot.{Slot}
use Rattle.defmt_grammar.specs.declared.language.Language.{Language}
use Rattle.defmt_intern.specs.Table.{Map}
use Rattle.defmt_shapes.specs.Shape.{Shape, HeadShape}
use Rattle.defmt_spelling.specs.Meaning.{meant_val}
use Rattle.defmt_spelling.specs.Names.{NameMap}
use Rattle.defmt_values.specs.Plain.{Val, Vals, snoc}
use Rattle.defmt_values.specs.Scan.{scan_val}

-- the text begins with what spells the value, which fits the slot without weight, and the rest follows
pub record IsQuick (slot : Slot) (text : List ℕ) (v : Val) (rest : List ℕ) : Type 0 where
  pub shape : Shape
  pub head : (language : Language) → HeadShape language text shape rest
  pub meant : (names : NameMap) (t : Map) → meant_val names t slot shape ≡ v
  pub fits : (t : Map) (left weight sum : ℕ) → scan_val t left slot weight sum v ≡ Ok sum

-- the value is appended
pub record Appended (slot : Slot) (text : List ℕ) (old new : Vals) (rest : List ℕ) : Type 0 where
  pub value : Val
  pub is : new ≡ snoc old value
  pub quick : IsQuick slot text value rest

-- it is appended, and the rest answered; or nothing is said
abbrev pub Appends : Slot → List ℕ → Vals → Vals → Option (Bor (List ℕ)) → Type 0
Appends slot text old new None = new ≡ old
Appends slot text old new (Some rest) = Appended slot text old new rest.now
