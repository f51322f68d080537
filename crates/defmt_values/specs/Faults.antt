-- The first cause for which a statement doesn't fit a table, from left to right: what stands in front of it fits.
use Rattle.std.specs.Prelude.{◌≡◌, ◌⊎◌, ◌<◌, ◌≤◌, ◌+◌, ◌*◌, ℕ, zero, suc, List, [], ◌∷◌, ◌++◌, length, Option, None, Result, Ok, Err}
use Rattle.defmt_grammar.specs.declared.piece.Piece.{Piece}
use Rattle.defmt_grammar.specs.declared.slot.Slot.{Slot}
use Rattle.defmt_intern.specs.Table.{Map}
use Rattle.defmt_intern.specs.declared.parsed.Parsed.{Parsed}
use Rattle.defmt_values.specs.Entries.{look, Place, places_of}
use Rattle.defmt_values.specs.Fits.{FitsVals, FitsElems, FitsNodes, weigh_vals, weigh_elems, weigh_nodes}
use Rattle.defmt_values.specs.Plain.{Val, uint, int, flag, char, str, istr, bytes, bits, format, seq, float, sequence, Vals, no_vals, val, Elems, no_elems, elem, Nodes, node, elems_len, join_vals, join_elems, join_nodes}
use Rattle.defmt_values.specs.Scan.{uint_cause, int_cause, flag_cause, char_cause, str_cause, istr_cause, bytes_cause, bits_cause, float_cause, node_cause, list_cause, count_cause, sequence_cause, form_at, element_form, list_form, pick, no_index, index_or, own_form}

-- The causes are 2 Count, 3 Kind, 4 Range, 5 NoEntry, 6 Deep, 7 Many and 8 Unsupported. Those of one value by its slot,
-- of an entry and of a variant are told by total functions (`Scan`). Here is their order.

-- what is refused of one value: its slot, its weight, the sum of the weights in front of it, the value, and the cause
abbrev pub OneFault : Type 1
OneFault = Slot → ℕ → ℕ → Val → ℕ → Type 0

-- what is refused one level below, where there is such a level
pub data Level : Type 1 where
  no_level : Level
  level : OneFault → Level

-- ---- the values of a text

-- a value is left without a place, or a place without a value, or the value of the next place is refused
abbrev pub NextFault : OneFault → List Place → ℕ → ℕ → Vals → ℕ → Type 0
NextFault one [] weight before no_vals cause = ⊥
NextFault one [] weight before (val v vs) cause = cause ≡ 2
NextFault one (p ∷ ps) weight before no_vals cause = cause ≡ 2
NextFault one (p ∷ ps) weight before (val v vs) cause = one p.slot (p.uses * weight) before v cause

-- Fitting values stand in front, and what comes next is refused. The text that the places belong to has a weight, and
-- `before` is the sum of the weights in front of it all. `one` says what is refused of one value.
pub record EachFault (t : Map) (left : ℕ) (one : OneFault) (places : List Place) (weight before : ℕ)
    (vs : Vals) (cause : ℕ) : Type 0 where
  pub front : List Place
  pub others : List Place
  pub places_is : places ≡ front ++ others
  pub values : Vals
  pub rest : Vals
  pub values_is : vs ≡ join_vals values rest
  pub fits : FitsVals t left front values
  pub light : before + weigh_vals t front weight values ≤ 8192
  pub next : NextFault one others weight (before + weigh_vals t front weight values) rest cause

-- ---- Format values and elements

-- of an entry's form: the weight passes the limit, then the variant isn't there, then one of the values is refused
abbrev pub FormFault : Map → ℕ → OneFault → Parsed → ℕ → ℕ → Option ℕ → Vals → ℕ → Type 0
FormFault t left one form weight before variant vs cause = ((8192 < before + weight) × (cause ≡ 7))
    ⊎ ((before + weight ≤ 8192) × (pick form variant ≡ Err cause))
    ⊎ ((ps : List Piece) × (before + weight ≤ 8192) × (pick form variant ≡ Ok ps)
    × EachFault t left one (places_of ps) weight (before + weight) vs cause)

-- a Format value, with what its index stands for: no level is left for it, then its entry doesn't suit or was refused, then
-- its form is refused
abbrev pub NodeFault : Map → ℕ → Level → Result Parsed ℕ → ℕ → ℕ → Option ℕ → Vals → ℕ → Type 0
NodeFault t left no_level found weight before variant vs cause = cause ≡ 6
NodeFault t left (level one) found weight before variant vs cause = (found ≡ Err cause)
    ⊎ ((form : Parsed) × (found ≡ Ok form)
    × FormFault t left one form weight before variant vs cause)

-- fitting elements stand in front, and the next one is refused
pub record ElemsFault (t : Map) (left : ℕ) (one : OneFault) (index : ℕ) (form : Parsed)
    (weight before : ℕ) (es : Elems) (cause : ℕ) : Type 0 where
  pub front : Elems
  pub variant : Option ℕ
  pub values : Vals
  pub rest : Elems
  pub elems_is : es ≡ join_elems front (elem variant values rest)
  pub fits : FitsElems t left form front
  pub light : before + weigh_elems t index weight front ≤ 8192
  pub next : FormFault t left one form weight
      (before + weigh_elems t index weight front) variant values cause

-- a list of some elements: its entry is looked for once, then come the elements, then an array's number of them
abbrev pub ListFault : Map → ℕ → OneFault → Slot → ℕ → ℕ → Option ℕ → Elems → ℕ → Type 0
ListFault t left one slot weight before index es cause = (list_form t index ≡ Err cause)
    ⊎ ((form : Parsed) × (list_form t index ≡ Ok form)
    × ElemsFault t left one (index_or index) form weight before es cause)
    ⊎ ((form : Parsed) × (list_form t index ≡ Ok form) × FitsElems t left form es
    × (before + weigh_elems t (index_or index) weight es ≤ 8192)
    × (count_cause slot (elems_len es) ≡ Err cause))

-- a list without elements: it has an index, or its array has another number of elements than 0; a list of some elements:
-- no level is left, or what `ListFault` says
abbrev pub SeqFault : Map → ℕ → Level → Slot → ℕ → ℕ → Option ℕ → Elems → ℕ → Type 0
SeqFault t left l slot weight before index no_elems cause = (no_index index ≡ Err cause)
    ⊎ ((index ≡ None) × (count_cause slot 0 ≡ Err cause))
SeqFault t left no_level slot weight before index (elem variant vs es) cause = cause ≡ 6
SeqFault t left (level one) slot weight before index (elem variant vs es) cause =
    ListFault t left one slot weight before index (elem variant vs es) cause

-- how many levels may be opened, where so many may be one level below
abbrev pub levels : Level → ℕ → ℕ
levels no_level left = 0
levels (level one) left = left + 1

-- of a sequence fitting elements stand in front, and the next one is refused, as a Format value in its place
pub record NodesFault (t : Map) (left : ℕ) (l : Level) (weight before : ℕ) (ns : Nodes)
    (cause : ℕ) : Type 0 where
  pub front : Nodes
  pub index : ℕ
  pub variant : Option ℕ
  pub values : Vals
  pub rest : Nodes
  pub nodes_is : ns ≡ join_nodes front (node index variant values rest)
  pub fits : FitsNodes t (levels l left) front
  pub light : before + weigh_nodes t weight front ≤ 8192
  pub next : NodeFault t left l (element_form t index) weight
      (before + weigh_nodes t weight front) variant values cause

-- ---- one value

-- a value of a slot, with what is refused one level below: first its kind, then what stands in it
abbrev pub ValFault : Map → ℕ → Level → OneFault
ValFault t left l slot weight before (uint n) cause = uint_cause slot n ≡ Err cause
ValFault t left l slot weight before (int n) cause = int_cause slot n ≡ Err cause
ValFault t left l slot weight before (flag b) cause = flag_cause slot ≡ Err cause
ValFault t left l slot weight before (char c) cause = char_cause slot ≡ Err cause
ValFault t left l slot weight before (str s) cause = str_cause slot ≡ Err cause
ValFault t left l slot weight before (istr index) cause = istr_cause t slot index ≡ Err cause
ValFault t left l slot weight before (bytes s) cause = bytes_cause slot (length s) ≡ Err cause
ValFault t left l slot weight before (bits n) cause = bits_cause slot n ≡ Err cause
ValFault t left l slot weight before (format index variant vs) cause = (node_cause slot ≡ Err cause)
    ⊎ ((node_cause slot ≡ Ok tt)
    × NodeFault t left l (form_at t index) weight before variant vs cause)
ValFault t left l slot weight before (seq index es) cause = (list_cause slot ≡ Err cause)
    ⊎ ((list_cause slot ≡ Ok tt) × SeqFault t left l slot weight before index es cause)
ValFault t left l slot weight before (float n) cause = float_cause slot n ≡ Err cause
ValFault t left l slot weight before (sequence ns) cause = (sequence_cause slot ≡ Err cause)
    ⊎ ((sequence_cause slot ≡ Ok tt) × NodesFault t left l weight before ns cause)

-- the same, where so many levels may still be opened
unfoldable pub fault_at : Map → ℕ → OneFault
fault_at t zero = ValFault t zero no_level
fault_at t (suc left) = ValFault t left (level (fault_at t left))

-- ---- statements

-- the first cause for which a statement doesn't fit: that of its own entry, or else of its arguments, whose text has the
-- weight 1; nothing stands in front of them, and 16 levels may be opened
abbrev pub StatementFault : Map → ℕ → Vals → ℕ → Type 0
StatementFault t index vs cause = (own_form t.language (look t index) ≡ Err cause)
    ⊎ ((ps : List Piece) × (own_form t.language (look t index) ≡ Ok ps)
    × EachFault t 16 (fault_at t 16) (places_of ps) 1 0 vs cause)
