-- Values that fit a table.
use Rattle.std.specs.Prelude.{◌≡◌, ◌⊎◌, ◌<◌, ◌≤◌, ◌+◌, ◌-◌, ◌*◌, ◌%◌, ◌^◌, ℕ, ℤ, true, List, [], ◌∷◌, length, Option, Some, None}
use Rattle.defmt_grammar.specs.Sizes.{size_bits, float_bits, IsSigned}
use Rattle.defmt_grammar.specs.declared.kind.FloatSize.{FloatSize}
use Rattle.defmt_grammar.specs.declared.kind.IntSize.{IntSize}
use Rattle.defmt_grammar.specs.declared.kind.Kind.TheVariants as kinds
use Rattle.defmt_grammar.specs.declared.piece.Piece.{Piece}
use Rattle.defmt_grammar.specs.declared.slot.Slot.{Slot}
use Rattle.defmt_grammar.specs.declared.slot.Slot.TheVariants as slots
use Rattle.defmt_intern.specs.Body.{body_of}
use Rattle.defmt_intern.specs.Table.{Map}
use Rattle.defmt_intern.specs.declared.entry.Entry.{Entry}
use Rattle.defmt_intern.specs.declared.parsed.Parsed.{Parsed}
use Rattle.defmt_intern.specs.declared.parsed.Parsed.TheVariants.{One, Variants}
use Rattle.defmt_values.specs.Entries.{look, is_format, is_interned, is_logged, variant_at, Place, places_of}
use Rattle.defmt_values.specs.Plain.{Val, uint, int, flag, char, str, istr, bytes, bits, format, seq, float, sequence, Vals, no_vals, val, Elems, no_elems, elem, Nodes, no_nodes, node, elems_len}
use Rattle.defmt_values.specs.Scan.{node_places, index_or}

-- ---- values without values inside

pub record IsUint (slot : Slot) (n : ℕ) : Type 0 where
  pub size : IntSize
  pub slot_is : slot ≡ slots.One (kinds.Uint size)
  pub in_range : n < 2 ^ size_bits size

pub record IsInt (slot : Slot) (n : ℤ) : Type 0 where
  pub size : IntSize
  pub slot_is : slot ≡ slots.One (kinds.Int size)
  pub in_range : IsSigned (size_bits size) n

-- a text that is sent whole, or that of a type's Debug or Display
abbrev pub IsText : Slot → Type 0
IsText slot = (slot ≡ slots.One kinds.Str) ⊎ (slot ≡ slots.One kinds.Debug)
    ⊎ (slot ≡ slots.One kinds.Display)

-- bytes, or a byte array of so many
abbrev pub IsBytes : Slot → ℕ → Type 0
IsBytes slot count = (slot ≡ slots.One kinds.Bytes) ⊎ (slot ≡ slots.One (kinds.ByteArray count))

-- no bit lies outside the bytes first to first + width - 1
pub record IsBits (slot : Slot) (n : ℕ) : Type 0 where
  pub first : ℕ
  pub width : ℕ
  pub slot_is : slot ≡ slots.Bits first width
  pub below : n < 256 ^ (first + width)
  pub above : n % 256 ^ first ≡ 0

-- the bits of a float of this size (IEEE 754)
pub record IsFloat (slot : Slot) (n : ℕ) : Type 0 where
  pub size : FloatSize
  pub slot_is : slot ≡ slots.One (kinds.Float size)
  pub in_range : n < 2 ^ float_bits size

-- the entry is an interned string
pub record IsInterned (t : Map) (index : ℕ) : Type 0 where
  pub entry : Entry
  pub there : look t index ≡ Some entry
  pub tag : is_interned entry.tag ≡ true

-- ---- Format values

-- the entry suits Format values, and stands for this
pub record IsForm (t : Map) (index : ℕ) (form : Parsed) : Type 0 where
  pub entry : Entry
  pub there : look t index ≡ Some entry
  pub tag : is_format entry.tag ≡ true
  pub body : body_of t.language entry ≡ form

-- the pieces are the form's own, or those of this variant
abbrev pub HasPieces : Parsed → Option ℕ → List Piece → Type 0
HasPieces form None ps = form ≡ One ps
HasPieces form (Some v) ps =
    (forms : List (List Piece)) × (form ≡ Variants forms) × (variant_at forms v ≡ Some ps)

-- a list may have this many elements
abbrev pub IsList : Slot → ℕ → Type 0
IsList slot count =
    (slot ≡ slots.One kinds.FormatSlice) ⊎ (slot ≡ slots.One (kinds.FormatArray count))

abbrev mutual
  -- left levels of Format values may stand round those inside the value
  pub FitsVal : Map → ℕ → Slot → Val → Type 0
  FitsVal t left slot (uint n) = IsUint slot n
  FitsVal t left slot (int n) = IsInt slot n
  FitsVal t left slot (flag b) = slot ≡ slots.One kinds.Bool
  FitsVal t left slot (char c) = slot ≡ slots.One kinds.Char
  FitsVal t left slot (str s) = IsText slot
  FitsVal t left slot (istr index) = (slot ≡ slots.One kinds.Istr) × IsInterned t index
  FitsVal t left slot (bytes s) = IsBytes slot (length s)
  FitsVal t left slot (bits n) = IsBits slot n
  FitsVal t left slot (format index variant vs) =
      (form : Parsed) × (ps : List Piece) × (slot ≡ slots.One kinds.Format) × (0 < left)
      × IsForm t index form × HasPieces form variant ps × FitsVals t (left - 1) (places_of ps) vs
  FitsVal t left slot (seq index es) = IsList slot (elems_len es) × (
      ((es ≡ no_elems) × (index ≡ None))
      ⊎ ((i : ℕ) × (form : Parsed) × (index ≡ Some i) × (0 < elems_len es) × (0 < left)
      × IsForm t i form × FitsElems t (left - 1) form es))
  FitsVal t left slot (float n) = IsFloat slot n
  FitsVal t left slot (sequence ns) = (slot ≡ slots.One kinds.Sequence) × FitsNodes t left ns

  -- each value fits its place, and each place has one
  pub FitsVals : Map → ℕ → List Place → Vals → Type 0
  FitsVals t left places no_vals = places ≡ []
  FitsVals t left places (val v vs) = (p : Place) × (ps : List Place) × (places ≡ p ∷ ps)
      × FitsVal t left p.slot v × FitsVals t left ps vs

  pub FitsElems : Map → ℕ → Parsed → Elems → Type 0
  FitsElems t left form no_elems = Unit {0}
  FitsElems t left form (elem variant vs es) = (ps : List Piece) × HasPieces form variant ps
      × FitsVals t left (places_of ps) vs × FitsElems t left form es

  -- the elements of a sequence stand where the sequence does, and none has the index 0
  pub FitsNodes : Map → ℕ → Nodes → Type 0
  FitsNodes t left no_nodes = Unit {0}
  FitsNodes t left (node index variant vs ns) =
      (form : Parsed) × (ps : List Piece) × (0 < index) × (0 < left) × IsForm t index form
      × HasPieces form variant ps × FitsVals t (left - 1) (places_of ps) vs × FitsNodes t left ns

-- ---- the weights of Format values and elements: how often each is printed

abbrev mutual
  pub weigh_val : Map → ℕ → Val → ℕ
  weigh_val t weight (uint n) = 0
  weigh_val t weight (int n) = 0
  weigh_val t weight (flag b) = 0
  weigh_val t weight (char c) = 0
  weigh_val t weight (str s) = 0
  weigh_val t weight (istr index) = 0
  weigh_val t weight (bytes s) = 0
  weigh_val t weight (bits n) = 0
  weigh_val t weight (format index variant vs) =
      weight + weigh_vals t (node_places t index variant) weight vs
  weigh_val t weight (seq index es) = weigh_elems t (index_or index) weight es
  weigh_val t weight (float n) = 0
  weigh_val t weight (sequence ns) = weigh_nodes t weight ns

  -- a value's weight is that of the text in which its position stands, as often as the text uses the position
  pub weigh_vals : Map → List Place → ℕ → Vals → ℕ
  weigh_vals t places weight no_vals = 0
  weigh_vals t [] weight (val v vs) = 0
  weigh_vals t (p ∷ ps) weight (val v vs) =
      weigh_val t (p.uses * weight) v + weigh_vals t ps weight vs

  pub weigh_elems : Map → ℕ → ℕ → Elems → ℕ
  weigh_elems t index weight no_elems = 0
  weigh_elems t index weight (elem variant vs es) =
      weight + weigh_vals t (node_places t index variant) weight vs + weigh_elems t index weight es

  -- an element of a sequence weighs what a Format value there does
  pub weigh_nodes : Map → ℕ → Nodes → ℕ
  weigh_nodes t weight no_nodes = 0
  weigh_nodes t weight (node index variant vs ns) =
      weight + weigh_vals t (node_places t index variant) weight vs + weigh_nodes t weight ns

-- The statement fits the table: 16 levels at most, and all weights together at most 8,192.
pub record Fits (t : Map) (index : ℕ) (vs : Vals) : Type 0 where
  pub entry : Entry
  pub pieces : List Piece
  pub there : look t index ≡ Some entry
  pub body : body_of t.language entry ≡ One pieces
  pub values : FitsVals t 16 (places_of pieces) vs
  pub light : weigh_vals t (places_of pieces) 1 vs ≤ 8192

-- the entry of the index is a level's or println's
pub record IsLogged (t : Map) (index : ℕ) : Type 0 where
  pub entry : Entry
  pub there : look t index ≡ Some entry
  pub tag : is_logged entry.tag ≡ true

-- a stamp's arguments fit the timestamp's entry; where the table has none there are no arguments
abbrev pub FitsStamp : Map → Option ℕ → Vals → Type 0
FitsStamp t None vs = vs ≡ no_vals
FitsStamp t (Some index) vs = Fits t index vs
