-- What the code tells of a value.
use Rattle.std.specs.Prelude.{◌≡◌, ◌<◌, ◌≤◌, ◌^◌, ℕ, Bool, true, ◌==◌, ◌||◌, if◌then◌else◌, is_some, List, [], ◌∷◌, ◌++◌, length, Option, Some, None, Result, Ok, Err}
use Rattle.std.specs.Borrow.{Bor}
use Rattle.std.specs.List.{list_all}
use Rattle.defmt_grammar.specs.Cut.{behind, skip_spaces}
use Rattle.defmt_grammar.specs.declared.language.Language.{Language}
use Rattle.dl_io.specs.declared.fault.Memory.{Memory}
use Rattle.defmt_shapes.specs.declared.number.Number.{Number}
use Rattle.defmt_shapes.specs.declared.number.Number.TheVariants.{Within, Above}
use Rattle.defmt_shapes.specs.declared.spelling.Spelling.{Spelling}
use Rattle.defmt_shapes.specs.declared.spelling.Spelling.TheVariants as told
use Rattle.defmt_shapes.specs.declared.spelling.Item.{Item}
use Rattle.defmt_shapes.specs.Shape.{Shape, Shapes, Items, decimal, hexadecimal, negative, flag, character, quoted, interned, bytes, call, empty, sequence, float, nodes, AreCalls, IsFloat, IsNumber, SpellsBytes, SpellsQuoted, SpellsShapes, SpellsItems, StartsThere, EndsThere, HeadShape, IsItemMark, IsName}

-- the number, as far as 128 bits hold it
abbrev pub Holds : Number → ℕ → Type 0
Holds (Within v) n = (v ≡ n) × (n < 2 ^ 128)
Holds Above n = 2 ^ 128 ≤ n

abbrev pub HoldsVariant : Option Number → Option ℕ → Type 0
HoldsVariant None None = Unit {0}
HoldsVariant None (Some v) = ⊥
HoldsVariant (Some number) None = ⊥
HoldsVariant (Some number) (Some v) = Holds number v

-- whether a value may end before this rest
abbrev pub ends_there : List ℕ → Bool
ends_there rest = length rest == 0 || is_some (behind 32 rest)

-- what a spelling says of the shape
abbrev pub Tells : Language → Spelling → Shape → Type 0
Tells language (told.Decimal number digits) s =
    (n : ℕ) × (s ≡ decimal n) × Holds number n × IsNumber 10 digits.now n
Tells language (told.Hexadecimal number) s = (n : ℕ) × (s ≡ hexadecimal n) × Holds number n
Tells language (told.Negative number digits) s =
    (n : ℕ) × (s ≡ negative n) × Holds number n × IsNumber 10 digits.now n
Tells language (told.Flag b) s = s ≡ flag b
Tells language (told.Character c) s = s ≡ character c
Tells language (told.Quoted inside) s = (t : List ℕ) × (s ≡ quoted t) × SpellsQuoted inside.now t
Tells language (told.Interned name) s = s ≡ interned name.now
Tells language (told.Bytes digits) s = (bs : List ℕ) × (s ≡ bytes bs) × SpellsBytes digits.now bs
Tells language (told.Call name variant inside) s = (v : Option ℕ) × (ss : Shapes)
    × (s ≡ call name.now v ss)
    × HoldsVariant variant v × SpellsShapes language inside.now ss
Tells language told.Empty s = s ≡ empty
Tells language (told.Sequence name inside) s = (items : Items) × (s ≡ sequence name.now items)
    × StartsThere inside.now × SpellsItems language inside.now items
Tells language (told.Float text) s = (s ≡ float text.now) × IsFloat text.now
Tells language (told.Nodes inside) s =
    (ss : Shapes) × (s ≡ nodes ss) × AreCalls ss × SpellsShapes language inside.now ss

-- the value in front and what follows it, or that there is none
abbrev pub IsValue : Language → List ℕ → Option (Spelling × Bor (List ℕ)) → Type 0
IsValue language text None = (s : Shape) (rest : List ℕ) → HeadShape language text s rest → ⊥
IsValue language text (Some p) = (s : Shape) × HeadShape language text s p.1.now
    × Tells language p.0 s

abbrev pub FindsValue : Language → List ℕ → Result (Option (Spelling × Bor (List ℕ))) Memory
    → Type 0
FindsValue language text (Ok o) = IsValue language text o
FindsValue language text (Err e) = Unit {0}

-- The text begins with this element, and the rest follows: a variant or none, `(`, values and `)`,
-- and then a space or the end.
pub record HeadItem (language : Language) (text : List ℕ) (variant : Option ℕ) (ss : Shapes)
    (rest : List ℕ) : Type 0 where
  pub mark : List ℕ
  pub inside : List ℕ
  pub is_mark : IsItemMark mark variant
  pub spelled : SpellsShapes language inside ss
  pub ends : EndsThere rest
  pub text_is : text ≡ mark ++ 40 ∷ (inside ++ 41 ∷ rest)

-- the element in front and what follows it, or that there is none
abbrev pub IsItem : Language → List ℕ → Option (Item × Bor (List ℕ)) → Type 0
IsItem language text None = (v : Option ℕ) (ss : Shapes) (rest : List ℕ)
    → HeadItem language text v ss rest → ⊥
IsItem language text (Some p) = (v : Option ℕ) × (ss : Shapes) × HeadItem language text v ss p.1.now
    × HoldsVariant p.0.variant v × SpellsShapes language p.0.inside.now ss

abbrev pub FindsItem : Language → List ℕ → Result (Option (Item × Bor (List ℕ))) Memory → Type 0
FindsItem language text (Ok o) = IsItem language text o
FindsItem language text (Err e) = Unit {0}

abbrev pub is_closing : ℕ → Bool
is_closing c = c == 41

-- nothing but `)` stands behind the first `)`
abbrev pub closes_at_once : List ℕ → Bool
closes_at_once [] = true
closes_at_once (c ∷ cs) = if is_closing c then list_all is_closing cs else closes_at_once cs

-- the text is this name, `(`, this inside and `)`, and no bracket closes before the last ones
pub record IsLastCall (text name inside : List ℕ) : Type 0 where
  pub name_is : IsName name
  pub text_is : text ≡ name ++ 40 ∷ (inside ++ 41 ∷ [])
  pub at_once : closes_at_once inside ≡ true

-- the two, or that the text is no such
abbrev pub FindsLastCall : List ℕ → Option (Bor (List ℕ) × Bor (List ℕ)) → Type 0
FindsLastCall text None = (name inside : List ℕ) → IsLastCall text name inside → ⊥
FindsLastCall text (Some p) = IsLastCall text p.0.now p.1.now

-- ---- laws

pub record SameHead (s t : Shape) (rest tail : List ℕ) : Type 0 where
  pub shape : s ≡ t
  pub rest_is : rest ≡ tail

-- the first value stands behind the spaces, and the others follow it
abbrev pub FirstShape : Language → List ℕ → Shape → Shapes → Type 0
FirstShape language text s ss = (rest : List ℕ) × HeadShape language (skip_spaces text) s rest
    × SpellsShapes language rest ss

-- and the first element
abbrev pub FirstItem : Language → List ℕ → Option ℕ → Shapes → Items → Type 0
FirstItem language text v ss items =
    (rest : List ℕ) × HeadItem language (skip_spaces text) v ss rest
    × SpellsItems language rest items
