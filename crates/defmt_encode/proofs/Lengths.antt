-- In few bytes the lengths of values fit in the four bytes that tell them.
use Rattle.std.proofs.Common.{◌<◌, ◌^◌, ℕ, List, [], ◌∷◌, ◌++◌, length, Option, arith, length-append}
use Rattle.byteorder.specs.Endian.{little_bytes}
use Rattle.defmt_grammar.specs.declared.kind.Kind.TheVariants as kinds
use Rattle.defmt_grammar.specs.declared.slot.Slot.{Slot}
use Rattle.defmt_grammar.specs.declared.slot.Slot.TheVariants as slots
use Rattle.defmt_intern.specs.Table.{Map}
use Rattle.defmt_values.specs.Plain.{Val, uint, int, flag, char, str, istr, bytes, bits, format, seq, float, sequence, Vals, no_vals, val, Elems, no_elems, elem, Nodes, no_nodes, node, elems_len}
use Rattle.defmt_values.specs.Scan.{index_or}
use Rattle.defmt_encode.specs.Carry.{text_end, text_bytes, length_bytes, variant_byte, count_bytes, index_bytes, node_slots, own_slots, stamp_slots, bytes_val, bytes_vals, bytes_elems, bytes_nodes, message_head, message_of}
use Rattle.defmt_encode.specs.Placed.{place_bytes}
use Rattle.defmt_encode.specs.Lengths.{TextFits, CountFits, LengthFits, LengthsFit, ElemsLengthsFit, NodesLengthsFit, MessageLengthsFit}
use Rattle.defmt_intern.specs.Stamp.{stamp_of}

count_fits : (slot : Slot) (count : ℕ) → count < 2 ^ 32 → CountFits slot count
count_fits (slots.One (kinds.Uint size)) count h = tt
count_fits (slots.One (kinds.Int size)) count h = tt
count_fits (slots.One kinds.Bool) count h = tt
count_fits (slots.One kinds.Char) count h = tt
count_fits (slots.One kinds.Str) count h = tt
count_fits (slots.One kinds.Istr) count h = tt
count_fits (slots.One kinds.Bytes) count h = h
count_fits (slots.One (kinds.ByteArray n)) count h = tt
count_fits (slots.One kinds.Format) count h = tt
count_fits (slots.One kinds.FormatSlice) count h = tt
count_fits (slots.One (kinds.FormatArray n)) count h = tt
count_fits (slots.One (kinds.Bits lo hi)) count h = tt
count_fits (slots.One (kinds.Float size)) count h = tt
count_fits (slots.One kinds.Debug) count h = tt
count_fits (slots.One kinds.Display) count h = tt
count_fits (slots.One kinds.Sequence) count h = tt
count_fits (slots.Bits first width) count h = tt

text_fits : (slot : Slot) (count : ℕ) → count < 2 ^ 32 → TextFits slot count
text_fits (slots.One (kinds.Uint size)) count h = h
text_fits (slots.One (kinds.Int size)) count h = h
text_fits (slots.One kinds.Bool) count h = h
text_fits (slots.One kinds.Char) count h = h
text_fits (slots.One kinds.Str) count h = h
text_fits (slots.One kinds.Istr) count h = h
text_fits (slots.One kinds.Bytes) count h = h
text_fits (slots.One (kinds.ByteArray n)) count h = h
text_fits (slots.One kinds.Format) count h = h
text_fits (slots.One kinds.FormatSlice) count h = h
text_fits (slots.One (kinds.FormatArray n)) count h = h
text_fits (slots.One (kinds.Bits lo hi)) count h = h
text_fits (slots.One (kinds.Float size)) count h = h
text_fits (slots.One kinds.Debug) count h = tt
text_fits (slots.One kinds.Display) count h = tt
text_fits (slots.One kinds.Sequence) count h = h
text_fits (slots.Bits first width) count h = h

-- what stands behind other bytes has no more than all
behind : (a b : List ℕ) → length (a ++ b) < 2 ^ 32 → length b < 2 ^ 32
behind a b h = omega (arith, h, length-append a b)

in_front : (a b : List ℕ) → length (a ++ b) < 2 ^ 32 → length a < 2 ^ 32
in_front a b h = omega (arith, h, length-append a b)

-- a text has no more bytes than what carries it
within : (slot : Slot) (s : List ℕ) → length (text_bytes slot s) < 2 ^ 32 → length s < 2 ^ 32
within (slots.One (kinds.Uint size)) s h = behind (little_bytes 4 (length s)) s h
within (slots.One (kinds.Int size)) s h = behind (little_bytes 4 (length s)) s h
within (slots.One kinds.Bool) s h = behind (little_bytes 4 (length s)) s h
within (slots.One kinds.Char) s h = behind (little_bytes 4 (length s)) s h
within (slots.One kinds.Str) s h = behind (little_bytes 4 (length s)) s h
within (slots.One kinds.Istr) s h = behind (little_bytes 4 (length s)) s h
within (slots.One kinds.Bytes) s h = behind (little_bytes 4 (length s)) s h
within (slots.One (kinds.ByteArray count)) s h = behind (little_bytes 4 (length s)) s h
within (slots.One kinds.Format) s h = behind (little_bytes 4 (length s)) s h
within (slots.One kinds.FormatSlice) s h = behind (little_bytes 4 (length s)) s h
within (slots.One (kinds.FormatArray count)) s h = behind (little_bytes 4 (length s)) s h
within (slots.One (kinds.Bits lo hi)) s h = behind (little_bytes 4 (length s)) s h
within (slots.One (kinds.Float size)) s h = behind (little_bytes 4 (length s)) s h
within (slots.One kinds.Debug) s h = in_front s (text_end ∷ []) h
within (slots.One kinds.Display) s h = in_front s (text_end ∷ []) h
within (slots.One kinds.Sequence) s h = behind (little_bytes 4 (length s)) s h
within (slots.Bits first width) s h = behind (little_bytes 4 (length s)) s h

mutual
  unfolding bytes_val

  val_lengths : (t : Map) (slot : Slot) (v : Val) → length (bytes_val t slot v) < 2 ^ 32 → LengthFits t slot v
  val_lengths t slot (uint n) h = tt
  val_lengths t slot (int n) h = tt
  val_lengths t slot (flag b) h = tt
  val_lengths t slot (char c) h = tt
  val_lengths t slot (str s) h = text_fits slot (length s) (within slot s h)
  val_lengths t slot (istr index) h = tt
  val_lengths t slot (bytes s) h = count_fits slot (length s) (behind (length_bytes slot (length s)) s h)
  val_lengths t slot (bits n) h = tt
  val_lengths t slot (format index variant vs) h =
      vals_lengths t (node_slots t index variant) vs (behind (little_bytes 2 index ++ variant_byte variant) (bytes_vals t (node_slots t index variant) vs) h)
  val_lengths t slot (seq index es) h =
      elems_lengths t (index_or index) es (behind (count_bytes slot (elems_len es) ++ index_bytes index) (bytes_elems t (index_or index) es) h)
  val_lengths t slot (float n) h = tt
  val_lengths t slot (sequence ns) h = nodes_lengths t ns (in_front (bytes_nodes t ns) (little_bytes 2 0) h)

  vals_lengths : (t : Map) (ss : List Slot) (vs : Vals) → length (bytes_vals t ss vs) < 2 ^ 32 → LengthsFit t ss vs
  vals_lengths t ss no_vals h = tt
  vals_lengths t [] (val v vs) h = tt
  vals_lengths t (s ∷ ss) (val v vs) h =
      (val_lengths t s v (in_front (bytes_val t s v) (bytes_vals t ss vs) h), vals_lengths t ss vs (behind (bytes_val t s v) (bytes_vals t ss vs) h))

  elems_lengths : (t : Map) (index : ℕ) (es : Elems) → length (bytes_elems t index es) < 2 ^ 32 → ElemsLengthsFit t index es
  elems_lengths t index no_elems h = tt
  elems_lengths t index (elem variant vs es) h =
      let body : List ℕ = bytes_vals t (node_slots t index variant) vs in
      let one : length (variant_byte variant ++ body) < 2 ^ 32 = in_front (variant_byte variant ++ body) (bytes_elems t index es) h in
      (vals_lengths t (node_slots t index variant) vs (behind (variant_byte variant) body one), elems_lengths t index es (behind (variant_byte variant ++ body) (bytes_elems t index es) h))

  nodes_lengths : (t : Map) (ns : Nodes) → length (bytes_nodes t ns) < 2 ^ 32 → NodesLengthsFit t ns
  nodes_lengths t no_nodes h = tt
  nodes_lengths t (node index variant vs ns) h =
      let body : List ℕ = bytes_vals t (node_slots t index variant) vs in
      let head : List ℕ = little_bytes 2 index ++ variant_byte variant in
      let one : length (head ++ body) < 2 ^ 32 = in_front (head ++ body) (bytes_nodes t ns) h in
      (vals_lengths t (node_slots t index variant) vs (behind head body one), nodes_lengths t ns (behind (head ++ body) (bytes_nodes t ns) h))

pub message_lengths : (t : Map) (place : Option ℕ) (stamp : Vals) (index : ℕ) (vs : Vals) → length (message_of t place stamp index vs) < 2 ^ 32 → MessageLengthsFit t stamp index vs
message_lengths t place stamp index vs h =
    let first : List ℕ = bytes_vals t (stamp_slots t (stamp_of t)) stamp in
    let body : List ℕ = bytes_vals t (own_slots t index) vs in
    let head : length (place_bytes place ++ first) < 2 ^ 32 = behind (little_bytes 2 index) (place_bytes place ++ first) (in_front (message_head index place first) body h) in
    (vals_lengths t (stamp_slots t (stamp_of t)) stamp (behind (place_bytes place) first head), vals_lengths t (own_slots t index) vs (behind (message_head index place first) body h))
