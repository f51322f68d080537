-- Texts that spell the arguments of a statement, and the first cause for which a text spells none.
use Rattle.std.specs.Prelude.{◌≡◌, ◌⊎◌, ◌≤◌, ◌+◌, ◌*◌, ℕ, List, [], ◌∷◌, ◌++◌, Result, Ok, Err}
use Rattle.defmt_grammar.specs.Cut.{skip_spaces}
use Rattle.defmt_grammar.specs.declared.piece.Piece.{Piece}
use Rattle.defmt_grammar.specs.declared.language.Language.{Language}
use Rattle.defmt_intern.specs.Table.{Map}
use Rattle.defmt_shapes.specs.Shape.{Shape, Shapes, no_shapes, shape, SpellsShapes, HeadShape, StartsThere}
use Rattle.defmt_spelling.specs.Meaning.{meant_val, meant_vals}
use Rattle.defmt_spelling.specs.Names.{NameMap}
use Rattle.defmt_values.specs.Entries.{look, Place, places_of}
use Rattle.defmt_values.specs.Faults.{fault_at}
use Rattle.defmt_values.specs.Fits.{FitsVals, weigh_vals, Fits}
use Rattle.defmt_values.specs.Plain.{Vals}
use Rattle.defmt_values.specs.Scan.{own_form}

-- The causes are 1 Syntax, 2 Count, 3 Kind, 4 Range, 5 NoEntry, 6 Deep, 7 Many and 8 Unsupported.

-- the text spells these values of the places, which fit the table
pub record Spelled (names : NameMap) (t : Map) (index : ℕ) (text : List ℕ) (vs : Vals)
    : Type 0 where
  pub fits : Fits t index vs
  pub shapes : Shapes
  pub spelled : SpellsShapes t.language text shapes
  pub meant : meant_vals names t (places_of fits.pieces) shapes ≡ vs

-- no value stands in front
abbrev pub NoValue : Language → List ℕ → Type 0
NoValue language text = (s : Shape) (rest : List ℕ) → HeadShape language text s rest → ⊥

-- the text begins with these values, and the rest follows them
abbrev pub HeadShapes : Language → List ℕ → Shapes → List ℕ → Type 0
HeadShapes language text no_shapes rest = text ≡ rest
HeadShapes language text (shape s ss) rest =
    (after : List ℕ) × HeadShape language (skip_spaces text) s after
    × HeadShapes language after ss rest

-- What comes next: a value too many, which isn't judged; or a value is missing; or what stands there is no spelling of a
-- value; or the value doesn't fit the next place, by its first cause of 2 to 8. `before` is the sum of the weights in
-- front of it, and the text round it has a weight of its own.
abbrev pub NextFault : NameMap → Map → ℕ → ℕ → List Place → ℕ → List ℕ → ℕ → Type 0
NextFault names t left weight [] before text cause = StartsThere (skip_spaces text) × (cause ≡ 2)
NextFault names t left weight (p ∷ ps) before text cause =
    ((skip_spaces text ≡ []) × (cause ≡ 2))
    ⊎ ((StartsThere (skip_spaces text) × NoValue t.language (skip_spaces text) × (cause ≡ 1))
    ⊎ ((s : Shape) × (rest : List ℕ) × HeadShape t.language (skip_spaces text) s rest
    × fault_at t left p.slot (p.uses * weight) before (meant_val names t p.slot s) cause))

-- The first cause, from left to right: values in front are spelled and fit their places, and what comes next isn't or
-- doesn't. The weights of those in front come behind `before`.
pub record FirstFault (names : NameMap) (t : Map) (left weight : ℕ) (places : List Place)
    (before : ℕ) (text : List ℕ) (cause : ℕ) : Type 0 where
  pub front : List Place
  pub others : List Place
  pub places_is : places ≡ front ++ others
  pub shapes : Shapes
  pub rest : List ℕ
  pub spelled : HeadShapes t.language text shapes rest
  pub fits : FitsVals t left front (meant_vals names t front shapes)
  pub light : before + weigh_vals t front weight (meant_vals names t front shapes) ≤ 8192
  pub next : NextFault names t left weight others
      (before + weigh_vals t front weight (meant_vals names t front shapes)) rest cause

-- A statement's own entry must have pieces: else nothing is spelled, and the cause is the entry's, 5 where it is
-- missing or an interned string, 8 where its text was refused, 4 where it is an enum.
abbrev pub ArgumentFault : NameMap → Map → ℕ → List ℕ → ℕ → Type 0
ArgumentFault names t index text cause =
    (own_form t.language (look t index) ≡ Err cause)
    ⊎ ((ps : List Piece) × (own_form t.language (look t index) ≡ Ok ps)
    × FirstFault names t 16 1 (places_of ps) 0 text cause)

-- the values that the text spells, or the first cause for which it spells none
abbrev pub ReadsArguments : NameMap → Map → ℕ → List ℕ → Result Vals ℕ → Type 0
ReadsArguments names t index text (Ok vs) = Spelled names t index text vs
ReadsArguments names t index text (Err cause) = ArgumentFault names t index text cause
