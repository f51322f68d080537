-- The bytes that carry values (defmt book, "Serialization").
use Rattle.std.specs.Prelude.{◌/◌, ◌^◌, ℕ, Bool, true, false, List, [], ◌∷◌, ◌++◌, length, Option, Some, None, Result, Ok, Err}
use Rattle.std.specs.Int.{w128, cast_unsigned}
use Rattle.byteorder.specs.Endian.{little_bytes}
use Rattle.defmt_grammar.specs.Sizes.{float_bytes}
use Rattle.defmt_grammar.specs.Slots.{slots_of}
use Rattle.defmt_grammar.specs.declared.kind.IntSize.{IntSize}
use Rattle.defmt_grammar.specs.declared.kind.IntSize.TheVariants.{W8, W16, W32, W64, W128, Native}
use Rattle.defmt_grammar.specs.declared.kind.Kind.TheVariants as kinds
use Rattle.defmt_grammar.specs.declared.piece.Piece.{Piece}
use Rattle.defmt_grammar.specs.declared.slot.Slot.{Slot}
use Rattle.defmt_grammar.specs.declared.slot.Slot.TheVariants as slots
use Rattle.defmt_intern.specs.Table.{Map}
use Rattle.defmt_values.specs.Entries.{look, Place}
use Rattle.defmt_values.specs.Plain.{Val, uint, int, flag, char, str, istr, bytes, bits, format, seq, float, sequence, Vals, no_vals, val, Elems, no_elems, elem, Nodes, no_nodes, node, elems_len}
use Rattle.defmt_values.specs.Scan.{◌>>=◌, form_at, pick, own_form, index_or}
use Rattle.defmt_intern.specs.Stamp.{stamp_of}
use Rattle.defmt_encode.specs.Placed.{place_bytes}
use Rattle.rzcobs_core.specs.Canon.{frame}

-- how many bytes an integer of a size has; native integers are those of a 32-bit device
abbrev pub size_bytes : IntSize → ℕ
size_bytes W8 = 1
size_bytes W16 = 2
size_bytes W32 = 4
size_bytes W64 = 8
size_bytes W128 = 16
size_bytes Native = 4

abbrev pub uint_width : Slot → ℕ
uint_width (slots.One (kinds.Uint size)) = size_bytes size
uint_width slot = 0

abbrev pub int_width : Slot → ℕ
int_width (slots.One (kinds.Int size)) = size_bytes size
int_width slot = 0

abbrev pub float_width : Slot → ℕ
float_width (slots.One (kinds.Float size)) = float_bytes size
float_width slot = 0

abbrev pub flag_byte : Bool → ℕ
flag_byte true = 1
flag_byte false = 0

-- the byte behind a text of Debug or Display: no text in UTF-8 has it
abbrev pub text_end : ℕ
text_end = 255

-- in front of a text stands the number of its bytes, but behind one of Debug or Display its end
abbrev pub text_bytes : Slot → List ℕ → List ℕ
text_bytes (slots.One kinds.Debug) s = s ++ text_end ∷ []
text_bytes (slots.One kinds.Display) s = s ++ text_end ∷ []
text_bytes slot s = little_bytes 4 (length s) ++ s

-- in front of bytes stands their number, but in front of those of a byte array
abbrev pub length_bytes : Slot → ℕ → List ℕ
length_bytes (slots.One kinds.Bytes) count = little_bytes 4 count
length_bytes slot count = []

-- the bytes of a window, and the byte of a number that is its lowest
abbrev pub window_width : Slot → ℕ
window_width (slots.Bits first width) = width
window_width slot = 0

abbrev pub window_first : Slot → ℕ
window_first (slots.Bits first width) = first
window_first slot = 0

abbrev pub variant_byte : Option ℕ → List ℕ
variant_byte None = []
variant_byte (Some v) = v ∷ []

-- in front of a slice's elements stands their number
abbrev pub count_bytes : Slot → ℕ → List ℕ
count_bytes (slots.One kinds.FormatSlice) count = little_bytes 4 count
count_bytes slot count = []

abbrev pub index_bytes : Option ℕ → List ℕ
index_bytes None = []
index_bytes (Some index) = little_bytes 2 index

-- where no pieces fit there are no slots
abbrev pub slots_in : Result (List Piece) ℕ → List Slot
slots_in (Ok ps) = slots_of ps
slots_in (Err e) = []

-- the slots of a Format value's arguments, or of an element's
abbrev pub node_slots : Map → ℕ → Option ℕ → List Slot
node_slots t index variant = slots_in (form_at t index >>= λ form. pick form variant)

-- the slots of the arguments of an entry's own text
abbrev pub own_slots : Map → ℕ → List Slot
own_slots t index = slots_in (own_form t.language (look t index))

unfoldable mutual
  -- One value of a slot. Numbers come with their lowest byte first, signed ones in two's complement.
  pub bytes_val : Map → Slot → Val → List ℕ
  bytes_val t slot (uint n) = little_bytes (uint_width slot) n
  bytes_val t slot (int n) = little_bytes (int_width slot) (cast_unsigned w128 n)
  bytes_val t slot (flag b) = flag_byte b ∷ []
  bytes_val t slot (char c) = little_bytes 4 c
  bytes_val t slot (str s) = text_bytes slot s
  bytes_val t slot (istr index) = little_bytes 2 index
  bytes_val t slot (bytes s) = length_bytes slot (length s) ++ s
  bytes_val t slot (bits n) = little_bytes (window_width slot) (n / 256 ^ window_first slot)
  bytes_val t slot (format index variant vs) =
      (little_bytes 2 index ++ variant_byte variant) ++ bytes_vals t (node_slots t index variant) vs
  bytes_val t slot (seq index es) =
      (count_bytes slot (elems_len es) ++ index_bytes index) ++ bytes_elems t (index_or index) es
  bytes_val t slot (float n) = little_bytes (float_width slot) n
  bytes_val t slot (sequence ns) = bytes_nodes t ns ++ little_bytes 2 0

  -- the values of slots, one after another
  pub bytes_vals : Map → List Slot → Vals → List ℕ
  bytes_vals t slots no_vals = []
  bytes_vals t [] (val v vs) = []
  bytes_vals t (s ∷ ss) (val v vs) = bytes_val t s v ++ bytes_vals t ss vs

  -- the elements of a list, each with its variant where the list's entry has some
  pub bytes_elems : Map → ℕ → Elems → List ℕ
  bytes_elems t index no_elems = []
  bytes_elems t index (elem variant vs es) =
      (variant_byte variant ++ bytes_vals t (node_slots t index variant) vs)
      ++ bytes_elems t index es

  -- the elements of a sequence, each as a Format value of its own, in front of the index 0
  pub bytes_nodes : Map → Nodes → List ℕ
  bytes_nodes t no_nodes = []
  bytes_nodes t (node index variant vs ns) =
      ((little_bytes 2 index ++ variant_byte variant)
      ++ bytes_vals t (node_slots t index variant) vs) ++ bytes_nodes t ns

-- the slots of places
abbrev pub slots_at : List Place → List Slot
slots_at [] = []
slots_at (p ∷ ps) = p.slot ∷ slots_at ps

-- the slots of the stamp's arguments, none where the table has no timestamp's entry
abbrev pub stamp_slots : Map → Option ℕ → List Slot
stamp_slots t None = []
stamp_slots t (Some index) = own_slots t index

-- the head of a message, in front of the statement's own arguments: its index, its place, and the bytes of the stamp
abbrev pub message_head : ℕ → Option ℕ → List ℕ → List ℕ
message_head index place stamp = little_bytes 2 index ++ (place_bytes place ++ stamp)

-- the message of a statement
abbrev pub message_of : Map → Option ℕ → Vals → ℕ → Vals → List ℕ
message_of t place stamp index vs =
    message_head index place (bytes_vals t (stamp_slots t (stamp_of t)) stamp)
    ++ bytes_vals t (own_slots t index) vs

-- the arguments of a stamp that is one number
abbrev pub stamp_args : Option ℕ → Vals
stamp_args None = no_vals
stamp_args (Some n) = val (uint n) no_vals

-- a message between its two delimiters (defmt book, "Encoding": rzcobs)
abbrev pub frame_of : List ℕ → List ℕ
frame_of message = frame message
