-- Fields that stand in front of bytes.
use Rattle.std.specs.Prelude.{◌≡◌, ◌<◌, ◌≤◌, ◌+◌, ◌^◌, ℕ, true, List, ◌++◌, length, Option, Some}
use Rattle.byteorder.specs.Endian.{little_bytes}
use Rattle.defmt_grammar.specs.declared.piece.Piece.{Piece}
use Rattle.defmt_intern.specs.Body.{body_of}
use Rattle.defmt_intern.specs.Table.{Map}
use Rattle.defmt_intern.specs.declared.entry.Entry.{Entry}
use Rattle.defmt_intern.specs.declared.table.Profile.{Profile}
use Rattle.defmt_encode.specs.Placed.{HasPlace, place_bytes}
use Rattle.defmt_intern.specs.declared.parsed.Parsed.{Parsed}
use Rattle.defmt_intern.specs.declared.parsed.Parsed.TheVariants.{One}
use Rattle.defmt_values.specs.Entries.{look, is_logged, Place}
use Rattle.defmt_values.specs.Fits.{FitsVal, FitsVals, FitsElems, FitsNodes, FitsStamp, weigh_val, weigh_vals, weigh_elems, weigh_nodes}
use Rattle.defmt_values.specs.Plain.{Val, Vals, Elems, Nodes}
use Rattle.defmt_encode.specs.Carry.{bytes_val, bytes_vals, bytes_elems, bytes_nodes, slots_at, stamp_slots}
use Rattle.defmt_values.specs.Sound.{IsSound, AreSound, ElemsSound, NodesSound}
use Rattle.defmt_encode.specs.Lengths.{LengthFits, LengthsFit, ElemsLengthsFit, NodesLengthsFit}
use Rattle.defmt_intern.specs.Stamp.{stamp_of}
use Rattle.defmt_grammar.specs.declared.slot.Slot.{Slot}

-- a number of so many bytes, its lowest byte first
pub record IsNumber (width n : ℕ) (bytes rest : List ℕ) : Type 0 where
  pub small : n < 256 ^ width
  pub carries : bytes ≡ little_bytes width n ++ rest

-- so many bytes
pub record IsChunk (n : ℕ) (chunk bytes rest : List ℕ) : Type 0 where
  pub size : length chunk ≡ n
  pub carries : bytes ≡ chunk ++ rest

-- a sum of weights that grows from s by n, and stays within the limit
pub record Sums (s n r : ℕ) : Type 0 where
  pub sum : s + n ≡ r
  pub kept : s ≤ 8192 → r ≤ 8192

-- a fitting value
pub record FoundVal (t : Map) (left : ℕ) (slot : Slot) (w s r : ℕ) (v : Val)
    (bytes rest : List ℕ) : Type 0 where
  pub fits : FitsVal t left slot v
  pub sound : IsSound v
  pub lengths : LengthFits t slot v
  pub sums : Sums s (weigh_val t w v) r
  pub carries : bytes ≡ bytes_val t slot v ++ rest

-- fitting values, one for each place
pub record FoundVals (t : Map) (left : ℕ) (places : List Place) (w s r : ℕ) (vs : Vals)
    (bytes rest : List ℕ) : Type 0 where
  pub fits : FitsVals t left places vs
  pub sound : AreSound vs
  pub lengths : LengthsFit t (slots_at places) vs
  pub sums : Sums s (weigh_vals t places w vs) r
  pub carries : bytes ≡ bytes_vals t (slots_at places) vs ++ rest

-- fitting elements of an entry's list
pub record FoundElems (t : Map) (left index : ℕ) (form : Parsed) (w s r : ℕ) (es : Elems)
    (bytes rest : List ℕ) : Type 0 where
  pub fits : FitsElems t left form es
  pub sound : ElemsSound es
  pub lengths : ElemsLengthsFit t index es
  pub sums : Sums s (weigh_elems t index w es) r
  pub carries : bytes ≡ bytes_elems t index es ++ rest

-- fitting elements of a sequence
pub record FoundNodes (t : Map) (left w s r : ℕ) (ns : Nodes) (bytes rest : List ℕ) : Type 0 where
  pub fits : FitsNodes t left ns
  pub sound : NodesSound ns
  pub lengths : NodesLengthsFit t ns
  pub sums : Sums s (weigh_nodes t w ns) r
  pub carries : bytes ≡ bytes_nodes t ns ++ rest

-- the place of a profile, where it has one
pub record FoundPlace (p : Profile) (place : Option ℕ) (bytes rest : List ℕ) : Type 0 where
  pub has : HasPlace p place
  pub carries : bytes ≡ place_bytes place ++ rest

-- a fitting stamp
pub record FoundStamp (t : Map) (stamp : Vals) (bytes rest : List ℕ) : Type 0 where
  pub fits : FitsStamp t (stamp_of t) stamp
  pub sound : AreSound stamp
  pub lengths : LengthsFit t (stamp_slots t (stamp_of t)) stamp
  pub carries : bytes ≡ bytes_vals t (stamp_slots t (stamp_of t)) stamp ++ rest

-- the entry of a level or of println, and its pieces
pub record IsOwn (t : Map) (index : ℕ) (pieces : List Piece) : Type 0 where
  pub entry : Entry
  pub there : look t index ≡ Some entry
  pub tag : is_logged entry.tag ≡ true
  pub body : body_of t.language entry ≡ One pieces
