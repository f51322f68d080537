-- What the spelled values of arguments mean, under names of entries and a table (this project's own spelling).
use Rattle.std.specs.Prelude.{ℕ, zero, suc, ℤ, pos, negsuc, Bool, true, false, List, [], ◌∷◌, Some, None, unwrap_or, to_bits}
use Rattle.std.specs.Float.Ieee.{Format, binary32, binary64, nan, round}
use Rattle.std.specs.Float.Parse.{parse_float}
use Rattle.std.specs.FinMap as map
use Rattle.defmt_grammar.specs.declared.kind.FloatSize.{FloatSize}
use Rattle.defmt_grammar.specs.declared.kind.FloatSize.TheVariants as floats
use Rattle.defmt_grammar.specs.declared.kind.Kind.TheVariants as kinds
use Rattle.defmt_grammar.specs.declared.slot.Slot.{Slot}
use Rattle.defmt_grammar.specs.declared.slot.Slot.TheVariants as slots
use Rattle.defmt_intern.specs.Table.{Map}
use Rattle.defmt_shapes.specs.Shape as shapes
use Rattle.defmt_shapes.specs.Shape.{Shape, Shapes, no_shapes, shape, Items, no_items, item}
use Rattle.defmt_spelling.specs.Names.{NameMap}
use Rattle.defmt_values.specs.Entries.{Place}
use Rattle.defmt_values.specs.Plain.{Val, uint, int, flag, char, str, istr, bytes, bits, format, seq, float, sequence, Vals, no_vals, val, Elems, no_elems, elem, Nodes, no_nodes, node}
use Rattle.defmt_values.specs.Scan.{node_places}

-- A spelling means a value of a kind of its own; only a number may be of several kinds, and is of the one that the
-- slot asks for. Whether the value fits its slot isn't judged here: a number of any size means a value, and a name
-- that isn't there means an index that no table has.

-- ---- floats (IEEE 754)

abbrev pub format_of : FloatSize → Format
format_of floats.W32 = binary32
format_of floats.W64 = binary64

-- the bits of the float nearest to a whole number with this sign, ties to even (section 4.3.1)
unfoldable pub nearest_bits : FloatSize → Bool → ℕ → ℕ
nearest_bits size negative n = to_bits (format_of size) (round (format_of size) negative n 1)

-- the bits of the float that a text writes, rounded in the same way
unfoldable pub text_bits : FloatSize → List ℕ → ℕ
text_bits size text = to_bits (format_of size) (unwrap_or (parse_float (format_of size) text) nan)

-- of the size of its slot
abbrev pub bits_at : Slot → List ℕ → ℕ
bits_at (slots.One (kinds.Float size)) text = text_bits size text
bits_at slot text = 0

-- ---- indexes and numbers

-- the index of a name
abbrev pub index_of : NameMap → List ℕ → ℕ
index_of names name = unwrap_or (map.get names name) 65536

-- decimal digits stand for a number of any kind, also for a float
abbrev pub decimal_at : Slot → ℕ → Val
decimal_at (slots.One (kinds.Int size)) n = int (pos n)
decimal_at (slots.Bits first width) n = bits n
decimal_at (slots.One (kinds.Float size)) n = float (nearest_bits size false n)
decimal_at slot n = uint n

-- hexadecimal digits never stand for a signed number, and for a float they are its bits
abbrev pub hexadecimal_at : Slot → ℕ → Val
hexadecimal_at (slots.Bits first width) n = bits n
hexadecimal_at (slots.One (kinds.Float size)) n = float n
hexadecimal_at slot n = uint n

-- the number below zero; `-0` is 0
abbrev pub negated : ℕ → ℤ
negated zero = pos 0
negated (suc n) = negsuc n

-- digits behind `-` stand for a signed number or a float
abbrev pub negative_at : Slot → ℕ → Val
negative_at (slots.One (kinds.Float size)) n = float (nearest_bits size true n)
negative_at slot n = int (negated n)

unfoldable mutual
  pub meant_val : NameMap → Map → Slot → Shape → Val
  meant_val names t slot (shapes.decimal n) = decimal_at slot n
  meant_val names t slot (shapes.hexadecimal n) = hexadecimal_at slot n
  meant_val names t slot (shapes.negative n) = negative_at slot n
  meant_val names t slot (shapes.flag b) = flag b
  meant_val names t slot (shapes.character c) = char c
  meant_val names t slot (shapes.quoted s) = str s
  meant_val names t slot (shapes.interned name) = istr (index_of names name)
  meant_val names t slot (shapes.bytes s) = bytes s
  meant_val names t slot (shapes.call name variant ss) =
      format (index_of names name) variant
      (meant_vals names t (node_places t (index_of names name) variant) ss)
  meant_val names t slot shapes.empty = seq None no_elems
  meant_val names t slot (shapes.sequence name items) =
      seq (Some (index_of names name)) (meant_elems names t (index_of names name) items)
  meant_val names t slot (shapes.float text) = float (bits_at slot text)
  meant_val names t slot (shapes.nodes ss) = sequence (meant_nodes names t ss)

  -- values for places; one beyond the last place counts, whatever it is
  pub meant_vals : NameMap → Map → List Place → Shapes → Vals
  meant_vals names t places no_shapes = no_vals
  meant_vals names t [] (shape s ss) = val (flag true) (meant_vals names t [] ss)
  meant_vals names t (p ∷ ps) (shape s ss) =
      val (meant_val names t p.slot s) (meant_vals names t ps ss)

  -- the elements of a list of an entry
  pub meant_elems : NameMap → Map → ℕ → Items → Elems
  meant_elems names t index no_items = no_elems
  meant_elems names t index (item variant ss more) =
      elem variant (meant_vals names t (node_places t index variant) ss)
      (meant_elems names t index more)

  -- the Format values of a sequence
  pub meant_nodes : NameMap → Map → Shapes → Nodes
  meant_nodes names t no_shapes = no_nodes
  meant_nodes names t (shape s ss) = meant_node names t s (meant_nodes names t ss)

  -- one in front; what is no Format value is none
  pub meant_node : NameMap → Map → Shape → Nodes → Nodes
  meant_node names t (shapes.call name variant ss) others =
      node (index_of names name) variant
      (meant_vals names t (node_places t (index_of names name) variant) ss) others
  meant_node names t s others = others
