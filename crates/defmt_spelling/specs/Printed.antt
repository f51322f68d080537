-- The canonical spelling of arguments: one space between values, numbers in decimal digits, floats as
-- their shortest decimals, bytes in lower-case hexadecimal digits, and of escapes only those of newline,
-- carriage return, tab, the backslash and the own quote.
use Rattle.std.specs.Prelude.{ℕ, ◌^◌, ◌%◌, ◌/◌, Bool, true, false, not, ◌==◌, ◌&&◌, nat_lt, List, [], ◌∷◌, ◌++◌, Option, Some, None, Result, Ok, Err, codes, unwrap_or, if◌then◌else◌}
use Rattle.defmt_grammar.specs.Sizes.{float_bits}
use Rattle.defmt_grammar.specs.Slots.{slots_of}
use Rattle.defmt_grammar.specs.declared.kind.FloatSize.{FloatSize}
use Rattle.defmt_grammar.specs.declared.kind.FloatSize.TheVariants as floats
use Rattle.defmt_grammar.specs.declared.kind.Kind.TheVariants as kinds
use Rattle.defmt_grammar.specs.declared.piece.Piece.{Piece}
use Rattle.defmt_grammar.specs.declared.slot.Slot.{Slot}
use Rattle.defmt_grammar.specs.declared.slot.Slot.TheVariants as slots
use Rattle.defmt_grammar.specs.declared.hint.Base.TheVariants.{Hex}
use Rattle.defmt_grammar.specs.declared.hint.Hint.TheVariants.{Plain, Debug, Radix}
use Rattle.defmt_grammar.specs.declared.kind.IntSize.TheVariants.{W128}
use Rattle.defmt_hints.specs.Printed.{printed_uint, printed_int, printed_bool, printed_char, printed_float, printed_str}
use Rattle.defmt_intern.specs.Table.{Map}
use Rattle.defmt_spelling.specs.Names.{NameMap, name_of}
use Rattle.defmt_values.specs.Entries.{look}
use Rattle.defmt_values.specs.Plain.{Val, uint, int, flag, char, str, istr, bytes, bits, format, seq, float, sequence, Vals, no_vals, val, Elems, no_elems, elem, elems_empty, Nodes, no_nodes, node}
use Rattle.defmt_values.specs.Scan.{◌>>=◌, form_at, index_or, own_form, pick}

-- the name of an index, of several the least; nothing where there is none
abbrev pub name_text : NameMap → ℕ → List ℕ
name_text names index = unwrap_or (name_of names index) []

-- two digits for each byte
unfoldable pub hex_text : List ℕ → List ℕ
hex_text [] = []
hex_text (b ∷ bs) = printed_uint b (Radix Hex false 2) ++ hex_text bs

-- a space in front of all values and elements but the first
abbrev pub gap : Bool → List ℕ
gap true = []
gap false = codes " "

-- a variant behind the name of its entry, and in front of an element
abbrev pub call_mark : Option ℕ → List ℕ
call_mark None = []
call_mark (Some v) = codes ":" ++ printed_uint v Plain

abbrev pub item_mark : Option ℕ → List ℕ
item_mark None = []
item_mark (Some v) = printed_uint v Plain

-- ---- floats

-- no number, as it lies above infinity without its sign, with other bits than `7fc00000` or
-- `7ff8000000000000`
unfoldable pub is_odd_nan : FloatSize → ℕ → Bool
is_odd_nan floats.W32 n = nat_lt 2139095040 (n % 2147483648) && not (n == 2143289344)
is_odd_nan floats.W64 n =
    nat_lt 9218868437227405312 (n % 9223372036854775808) && not (n == 9221120237041090560)

-- all digits of the bits
abbrev pub bits_text : FloatSize → ℕ → List ℕ
bits_text size n = codes "0x" ++ printed_uint n (Radix Hex false (float_bits size / 4))

abbrev pub float_spelling : FloatSize → ℕ → List ℕ
float_spelling size n =
    if is_odd_nan size n then bits_text size n else printed_float size n

-- the size is that of the slot; what is no float of it has no text
unfoldable pub float_text : Slot → ℕ → List ℕ
float_text (slots.One (kinds.Float size)) n =
    if nat_lt n (2 ^ float_bits size) then float_spelling size n else []
float_text slot n = []

-- ---- the slots of values

abbrev pub slots_in : Result (List Piece) ℕ → List Slot
slots_in (Ok ps) = slots_of ps
slots_in (Err e) = []

abbrev pub node_slots : Map → ℕ → Option ℕ → List Slot
node_slots t index variant = slots_in (form_at t index >>= λ form. pick form variant)

abbrev pub own_slots : Map → ℕ → List Slot
own_slots t index = slots_in (own_form t.language (look t index))

-- behind the last slot there are some that no float stands in
abbrev pub first_slot : List Slot → Slot
first_slot [] = slots.One kinds.Bool
first_slot (slot ∷ more) = slot

abbrev pub more_slots : List Slot → List Slot
more_slots [] = []
more_slots (slot ∷ more) = more

-- ---- values

unfoldable mutual
  pub printed_val : NameMap → Map → Slot → Val → List ℕ
  printed_val names t slot (uint n) = printed_uint n Plain
  printed_val names t slot (int z) = printed_int z W128 Plain
  printed_val names t slot (flag b) = printed_bool b
  printed_val names t slot (char c) = printed_char c Debug
  printed_val names t slot (str s) = printed_str s Debug
  printed_val names t slot (istr index) = codes "@" ++ name_text names index
  printed_val names t slot (bytes s) = codes "#" ++ hex_text s
  printed_val names t slot (bits n) = printed_uint n Plain
  printed_val names t slot (format index variant vs) =
      name_text names index ++ (call_mark variant
      ++ (codes "(" ++ (vals_text names t true (node_slots t index variant) vs ++ codes ")")))
  printed_val names t slot (seq index es) =
      if elems_empty es then codes "[]"
      else name_text names (index_or index)
      ++ (codes "[" ++ (elems_text names t true (index_or index) es ++ codes "]"))
  printed_val names t slot (float n) = float_text slot n
  printed_val names t slot (sequence ns) =
      codes "<" ++ (nodes_text names t true ns ++ codes ">")

  pub vals_text : NameMap → Map → Bool → List Slot → Vals → List ℕ
  vals_text names t first there no_vals = []
  vals_text names t first there (val v vs) =
      gap first
      ++ (printed_val names t (first_slot there) v ++ vals_text names t false (more_slots there) vs)

  pub elems_text : NameMap → Map → Bool → ℕ → Elems → List ℕ
  elems_text names t first index no_elems = []
  elems_text names t first index (elem variant vs es) =
      gap first
      ++ ((item_mark variant
      ++ (codes "(" ++ (vals_text names t true (node_slots t index variant) vs ++ codes ")")))
      ++ elems_text names t false index es)

  pub nodes_text : NameMap → Map → Bool → Nodes → List ℕ
  nodes_text names t first no_nodes = []
  nodes_text names t first (node index variant vs ns) =
      gap first
      ++ ((name_text names index ++ (call_mark variant
      ++ (codes "(" ++ (vals_text names t true (node_slots t index variant) vs ++ codes ")"))))
      ++ nodes_text names t false ns)

-- values in brackets
abbrev pub inside_text : NameMap → Map → List Slot → Vals → List ℕ
inside_text names t there vs = codes "(" ++ (vals_text names t true there vs ++ codes ")")

-- a Format value
abbrev pub node_text : NameMap → Map → ℕ → Option ℕ → Vals → List ℕ
node_text names t index variant vs =
    name_text names index
    ++ (call_mark variant ++ inside_text names t (node_slots t index variant) vs)

abbrev pub printed_list : NameMap → Map → Option ℕ → Elems → List ℕ
printed_list names t index es =
    if elems_empty es then codes "[]"
    else name_text names (index_or index)
    ++ (codes "[" ++ (elems_text names t true (index_or index) es ++ codes "]"))

abbrev pub printed_arguments : NameMap → Map → ℕ → Vals → List ℕ
printed_arguments names t index vs = vals_text names t true (own_slots t index) vs
