-- What the functions that read values answer.
use Rattle.std.specs.Prelude.{◌≡◌, ◌⊎◌, ◌≤◌, ◌-◌, ◌*◌, ℕ, nat_lt, List, [], ◌∷◌, Option, Some, None, Result, Ok, Err}
use Rattle.std.specs.Borrow.{Bor}
use Rattle.dl_io.specs.declared.fault.Memory.{Memory as Io}
use Rattle.defmt_grammar.specs.Cut.{skip_spaces}
use Rattle.defmt_grammar.specs.declared.piece.Piece.{Piece}
use Rattle.defmt_grammar.specs.declared.slot.Slot.{Slot}
use Rattle.defmt_grammar.specs.declared.language.Language.{Language}
use Rattle.defmt_intern.specs.Table.{Map}
use Rattle.defmt_shapes.specs.declared.spelling.Spelling.{Spelling}
use Rattle.defmt_shapes.specs.declared.spelling.Spelling.TheVariants.{Call, Sequence, Nodes as Angles}
use Rattle.defmt_shapes.specs.Shape.{Shape, Shapes, no_shapes, shape, call, AreCalls, SpellsShapes, HeadShape, StartsThere}
use Rattle.defmt_shapes.specs.Spelling.{HoldsVariant}
use Rattle.defmt_shapes.specs.declared.number.Number.{Number}
use Rattle.defmt_spelling.specs.Meaning.{index_of, meant_val, meant_vals}
use Rattle.defmt_spelling.specs.Names.{NameMap}
use Rattle.defmt_spelling.specs.Spelling.{NoValue, ReadsArguments}
use Rattle.defmt_spelling.specs.declared.fault.ArgFault.{ArgFault}
use Rattle.defmt_spelling.specs.declared.fault.ArgFault.TheVariants.{Refused, Memory}
use Rattle.defmt_spelling.specs.declared.fault.Cause.{Cause}
use Rattle.defmt_spelling.specs.declared.fault.Cause.TheVariants as causes
use Rattle.defmt_intern.specs.declared.parsed.Parsed.{Parsed}
use Rattle.defmt_values.specs.Entries.{Place, places_of}
use Rattle.defmt_values.specs.Plain.{Val, Vals, Elems, Nodes}
use Rattle.defmt_values.specs.Scan.{◌>>=◌, test, add, pick, form_at, element_form, node_places, places_in, scan_val, scan_vals, scan_node}
use Rattle.defmt_values.specs.View.{plain}
use Rattle.defmt_values.specs.declared.value.Value.{Value}
use Rattle.defmt_values.specs.declared.value.Item.{Item}
use Rattle.defmt_values.specs.declared.value.Node.{Node}

abbrev pub cause_number : Cause → ℕ
cause_number causes.Syntax = 1
cause_number causes.Count = 2
cause_number causes.Kind = 3
cause_number causes.Range = 4
cause_number causes.NoEntry = 5
cause_number causes.Deep = 6
cause_number causes.Many = 7

-- ---- one value, which is known to be spelled

-- no values stand inside
abbrev pub IsLeaf : Spelling → Type 0
IsLeaf (Call name variant inside) = ⊥
IsLeaf (Sequence name inside) = ⊥
IsLeaf (Angles inside) = ⊥
IsLeaf spelling = Unit {0}

-- a leaf that means this value, which fits; or the cause for which it doesn't
abbrev pub GivesLeaf : Result Value ArgFault → Val → Result (Unit {0}) ℕ → Type 0
GivesLeaf (Ok value) v cause = (plain value ≡ v) × (cause ≡ Ok tt)
GivesLeaf (Err (Refused c)) v cause = cause ≡ Err c
GivesLeaf (Err Memory) v cause = Unit {0}

-- this value and the sum behind it, or the cause
abbrev pub GivesValue : Result (Value × ℕ) ArgFault → Val → Result ℕ ℕ → Type 0
GivesValue (Ok r) v scan = (plain r.0 ≡ v) × (scan ≡ Ok r.1)
GivesValue (Err (Refused c)) v scan = scan ≡ Err c
GivesValue (Err Memory) v scan = Unit {0}

abbrev pub GivesValues : Result (Vals × ℕ) ArgFault → Vals → Result ℕ ℕ → Type 0
GivesValues (Ok r) vs scan = (r.0 ≡ vs) × (scan ≡ Ok r.1)
GivesValues (Err (Refused c)) vs scan = scan ≡ Err c
GivesValues (Err Memory) vs scan = Unit {0}

abbrev pub GivesElems : Result (Elems × ℕ) ArgFault → Elems → Result ℕ ℕ → Type 0
GivesElems (Ok r) es scan = (r.0 ≡ es) × (scan ≡ Ok r.1)
GivesElems (Err (Refused c)) es scan = scan ≡ Err c
GivesElems (Err Memory) es scan = Unit {0}

abbrev pub GivesNodes : Result (Nodes × ℕ) ArgFault → Nodes → Result ℕ ℕ → Type 0
GivesNodes (Ok r) ns scan = (r.0 ≡ ns) × (scan ≡ Ok r.1)
GivesNodes (Err (Refused c)) ns scan = scan ≡ Err c
GivesNodes (Err Memory) ns scan = Unit {0}

-- an element's variant and values
abbrev pub GivesItem : Result (Item × ℕ) ArgFault → Option ℕ → Vals → Result ℕ ℕ → Type 0
GivesItem (Ok r) variant vs scan = (r.0.variant ≡ variant) × (r.0.args ≡ vs) × (scan ≡ Ok r.1)
GivesItem (Err (Refused c)) variant vs scan = scan ≡ Err c
GivesItem (Err Memory) variant vs scan = Unit {0}

-- the first of these Format values, in a text that spells them
pub record IsFirstCall (language : Language) (name : List ℕ) (variant : Option Number)
    (inside rest : List ℕ) (ss : Shapes) : Type 0 where
  pub mark : Option ℕ
  pub values : Shapes
  pub others : Shapes
  pub shapes_are : ss ≡ shape (call name mark values) others
  pub holds : HoldsVariant variant mark
  pub spelled : SpellsShapes language inside values
  pub spelled_others : SpellsShapes language rest others
  pub calls : AreCalls others

abbrev pub FindsCall : Language
    → Result (Option (Bor (List ℕ) × Option Number × Bor (List ℕ) × Bor (List ℕ))) Io
    → Shapes → Type 0
FindsCall language (Ok None) ss = ss ≡ no_shapes
FindsCall language (Ok (Some p)) ss = IsFirstCall language p.0.now p.1 p.2.now p.3.now ss
FindsCall language (Err e) ss = Unit {0}

-- the sum behind an element of a sequence, with what its index stands for
abbrev pub found_scan : Map → ℕ → Result Parsed ℕ → ℕ → ℕ → Option ℕ → Vals → Result ℕ ℕ
found_scan t left found weight sum variant vs =
    scan_node left found weight sum variant
    (λ ps s. scan_vals t (left - 1) (places_of ps) weight s vs)

-- a Format value of a sequence, by its name, variant and values
abbrev pub GivesNode : Result (Node × ℕ) ArgFault → NameMap → Map → ℕ → ℕ → ℕ → List ℕ → Option ℕ
    → Shapes → Type 0
GivesNode (Ok r) names t left weight sum name variant ss =
    (r.0.index ≡ index_of names name) × (r.0.variant ≡ variant)
    × (r.0.args ≡ meant_vals names t (node_places t (index_of names name) variant) ss)
    × (found_scan t left (element_form t (index_of names name)) weight sum variant
    (meant_vals names t (node_places t (index_of names name) variant) ss) ≡ Ok r.1)
GivesNode (Err (Refused c)) names t left weight sum name variant ss =
    found_scan t left (element_form t (index_of names name)) weight sum variant
    (meant_vals names t (node_places t (index_of names name) variant) ss) ≡ Err c
GivesNode (Err Memory) names t left weight sum name variant ss = Unit {0}

-- the form of an entry, where a level is left for its values
abbrev pub form_scan : Map → ℕ → ℕ → Result Parsed ℕ
form_scan t left index = test (nat_lt 0 left) 6 >>= λ deep. form_at t index

-- the same of an element of a sequence
abbrev pub element_scan : Map → ℕ → ℕ → Result Parsed ℕ
element_scan t left index = test (nat_lt 0 left) 6 >>= λ deep. element_form t index

-- the sum behind the values of a form, or of its variant, with their own weight
abbrev pub item_scan : Map → ℕ → Parsed → ℕ → ℕ → Option ℕ → Vals → Result ℕ ℕ
item_scan t left form weight sum variant vs =
    add weight sum >>= λ s. pick form variant >>= λ ps. scan_vals t left (places_of ps) weight s vs

abbrev pub meant_inside : NameMap → Map → Parsed → Option ℕ → Shapes → Vals
meant_inside names t form variant ss = meant_vals names t (places_in (pick form variant)) ss

-- ---- values in a text

-- the text spells these values of the places, which fit; their weights lead from one sum to the next
pub record Means (names : NameMap) (t : Map) (left weight : ℕ) (places : List Place) (sum : ℕ)
    (text : List ℕ) (vs : Vals) (next : ℕ) : Type 0 where
  pub shapes : Shapes
  pub spelled : SpellsShapes t.language text shapes
  pub meant : meant_vals names t places shapes ≡ vs
  pub fits : scan_vals t left places weight sum vs ≡ Ok next

-- the sum of the weights with that of a value of a place, or the first cause for which the value doesn't fit there
abbrev pub judged : NameMap → Map → ℕ → ℕ → Place → ℕ → Shape → Result ℕ ℕ
judged names t left weight p sum s =
    scan_val t left p.slot (p.uses * weight) sum (meant_val names t p.slot s)

-- the first fault, with the sum of the weights taken along from value to value
abbrev pub ScannedFault : NameMap → Map → ℕ → ℕ → List Place → ℕ → List ℕ → ℕ → Type 0
ScannedFault names t left weight [] sum text cause = StartsThere (skip_spaces text) × (cause ≡ 2)
ScannedFault names t left weight (p ∷ ps) sum text cause =
    ((skip_spaces text ≡ []) × (cause ≡ 2))
    ⊎ ((StartsThere (skip_spaces text) × NoValue t.language (skip_spaces text) × (cause ≡ 1))
    ⊎ ((s : Shape) × (rest : List ℕ) × HeadShape t.language (skip_spaces text) s rest
    × ((judged names t left weight p sum s ≡ Err cause)
    ⊎ ((next : ℕ) × (judged names t left weight p sum s ≡ Ok next)
    × ScannedFault names t left weight ps next rest cause))))

abbrev pub ReadsValues : NameMap → Map → ℕ → ℕ → List Place → ℕ → List ℕ
    → Result (Vals × ℕ) ArgFault → Type 0
ReadsValues names t left weight places sum text (Ok r) =
    Means names t left weight places sum text r.0 r.1
ReadsValues names t left weight places sum text (Err (Refused c)) =
    ScannedFault names t left weight places sum text c
ReadsValues names t left weight places sum text (Err Memory) = Unit {0}

-- the first value of a text, what follows it, and the sum behind it
pub record Front (names : NameMap) (t : Map) (left : ℕ) (slot : Slot) (weight sum : ℕ)
    (text : List ℕ) (v : Val) (next : ℕ) (rest : List ℕ) : Type 0 where
  pub shape : Shape
  pub head : HeadShape t.language (skip_spaces text) shape rest
  pub meant : meant_val names t slot shape ≡ v
  pub fits : scan_val t left slot weight sum v ≡ Ok next

-- why there is none
abbrev pub FrontFault : NameMap → Map → ℕ → Slot → ℕ → ℕ → List ℕ → ℕ → Type 0
FrontFault names t left slot weight sum text cause =
    ((skip_spaces text ≡ []) × (cause ≡ 2))
    ⊎ ((StartsThere (skip_spaces text) × NoValue t.language (skip_spaces text) × (cause ≡ 1))
    ⊎ ((s : Shape) × (rest : List ℕ) × HeadShape t.language (skip_spaces text) s rest
    × (scan_val t left slot weight sum (meant_val names t slot s) ≡ Err cause)))

abbrev pub ReadsFront : NameMap → Map → ℕ → Slot → ℕ → ℕ → List ℕ
    → Result (Value × ℕ × Bor (List ℕ)) ArgFault → Type 0
ReadsFront names t left slot weight sum text (Ok r) =
    Front names t left slot weight sum text (plain r.0) r.1 r.2.now
ReadsFront names t left slot weight sum text (Err (Refused c)) =
    FrontFault names t left slot weight sum text c
ReadsFront names t left slot weight sum text (Err Memory) = Unit {0}

-- the text between brackets spells values
pub record SpellsSome (language : Language) (inside : List ℕ) : Type 0 where
  pub shapes : Shapes
  pub spelled : SpellsShapes language inside shapes

-- ---- answers

-- only what the text reads as, unless memory runs out
abbrev pub Reads : NameMap → Map → ℕ → List ℕ → Result Vals ArgFault → Type 0
Reads names t index text (Ok vs) = ReadsArguments names t index text (Ok vs)
Reads names t index text (Err (Refused c)) = ReadsArguments names t index text (Err c)
Reads names t index text (Err Memory) = Unit {0}

-- exactly this, unless memory runs out
abbrev pub GivesOnly : Result Vals ArgFault → Result Vals ℕ → Type 0
GivesOnly (Ok vs) read = Ok vs ≡ read
GivesOnly (Err (Refused c)) read = Err c ≡ read
GivesOnly (Err Memory) read = Unit {0}

abbrev pub SmallValue : {T : Type 0} → Result (T × ℕ) ArgFault → Type 0
SmallValue (Ok r) = r.1 ≤ 8192
SmallValue (Err e) = Unit {0}

abbrev pub SmallFront : {T U : Type 0} → Result (T × ℕ × U) ArgFault → Type 0
SmallFront (Ok r) = r.1 ≤ 8192
SmallFront (Err e) = Unit {0}

-- the index of a name of the map
abbrev pub GivesIndex : NameMap → List ℕ → Result ℕ ArgFault → Type 0
GivesIndex names name (Ok index) = index_of names name ≡ index
GivesIndex names name (Err (Refused c)) = (index_of names name ≡ 65536) × (c ≡ 5)
GivesIndex names name (Err Memory) = ⊥

-- the index of a name and the form of its entry
abbrev pub GivesForm : NameMap → Map → ℕ → List ℕ → Result (ℕ × Bor Parsed) ArgFault → Type 0
GivesForm names t left name (Ok r) =
    (index_of names name ≡ r.0) × (form_scan t left (index_of names name) ≡ Ok r.1.now)
GivesForm names t left name (Err (Refused c)) = form_scan t left (index_of names name) ≡ Err c
GivesForm names t left name (Err Memory) = ⊥

-- the same of an element of a sequence
abbrev pub GivesElement : NameMap → Map → ℕ → List ℕ → Result (ℕ × Bor Parsed) ArgFault → Type 0
GivesElement names t left name (Ok r) =
    (index_of names name ≡ r.0) × (element_scan t left (index_of names name) ≡ Ok r.1.now)
GivesElement names t left name (Err (Refused c)) =
    element_scan t left (index_of names name) ≡ Err c
GivesElement names t left name (Err Memory) = ⊥

-- the pieces of a spelled variant, and its number of one byte
abbrev pub GivesVariant : Result (List Piece) ℕ → Option ℕ
    → Result (Bor (List Piece) × Option ℕ) ArgFault → Type 0
GivesVariant picked variant (Ok r) = (picked ≡ Ok r.0.now) × (r.1 ≡ variant)
GivesVariant picked variant (Err (Refused c)) = picked ≡ Err c
GivesVariant picked variant (Err Memory) = ⊥

-- what a test answers
abbrev pub Tests : Result (Unit {0}) ℕ → Result (Unit {0}) ArgFault → Type 0
Tests cause (Ok done) = cause ≡ Ok tt
Tests cause (Err (Refused c)) = cause ≡ Err c
Tests cause (Err Memory) = ⊥

-- what a sum with one more weight answers
abbrev pub GivesSum : Result ℕ ℕ → Result ℕ ArgFault → Type 0
GivesSum sum (Ok r) = sum ≡ Ok r
GivesSum sum (Err (Refused c)) = sum ≡ Err c
GivesSum sum (Err Memory) = ⊥
