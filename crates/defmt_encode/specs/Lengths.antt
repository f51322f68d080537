-- The lengths of values: four bytes tell the length of a text that isn't one of Debug or Display, and that of bytes which
-- aren't those of a byte array, so that no longer ones stand in a message.
use Rattle.std.specs.Prelude.{◌<◌, ◌^◌, ℕ, List, [], ◌∷◌, length}
use Rattle.defmt_grammar.specs.declared.kind.Kind.TheVariants as kinds
use Rattle.defmt_grammar.specs.declared.slot.Slot.{Slot}
use Rattle.defmt_grammar.specs.declared.slot.Slot.TheVariants as slots
use Rattle.defmt_intern.specs.Table.{Map}
use Rattle.defmt_values.specs.Plain.{Val, uint, int, flag, char, str, istr, bytes, bits, format, seq, float, sequence, Vals, no_vals, val, Elems, no_elems, elem, Nodes, no_nodes, node}
use Rattle.defmt_values.specs.Scan.{index_or}
use Rattle.defmt_encode.specs.Carry.{node_slots, own_slots, stamp_slots}
use Rattle.defmt_intern.specs.Stamp.{stamp_of}

-- of bytes: four bytes in front of them tell their number, but not that of a byte array's, which has as many as its slot says
abbrev pub CountFits : Slot → ℕ → Type 0
CountFits (slots.One kinds.Bytes) count = count < 2 ^ 32
CountFits slot count = Unit {0}

-- of a text: four bytes in front of it tell its number of bytes, but behind one of Debug or Display stands its end
abbrev pub TextFits : Slot → ℕ → Type 0
TextFits (slots.One kinds.Debug) count = Unit {0}
TextFits (slots.One kinds.Display) count = Unit {0}
TextFits slot count = count < 2 ^ 32

abbrev mutual
  -- of one value of a slot
  pub LengthFits : Map → Slot → Val → Type 0
  LengthFits t slot (uint n) = Unit {0}
  LengthFits t slot (int n) = Unit {0}
  LengthFits t slot (flag b) = Unit {0}
  LengthFits t slot (char c) = Unit {0}
  LengthFits t slot (str s) = TextFits slot (length s)
  LengthFits t slot (istr index) = Unit {0}
  LengthFits t slot (bytes s) = CountFits slot (length s)
  LengthFits t slot (bits n) = Unit {0}
  LengthFits t slot (format index variant vs) = LengthsFit t (node_slots t index variant) vs
  LengthFits t slot (seq index es) = ElemsLengthsFit t (index_or index) es
  LengthFits t slot (float n) = Unit {0}
  LengthFits t slot (sequence ns) = NodesLengthsFit t ns

  -- of the values of slots
  pub LengthsFit : Map → List Slot → Vals → Type 0
  LengthsFit t slots no_vals = Unit {0}
  LengthsFit t [] (val v vs) = Unit {0}
  LengthsFit t (s ∷ ss) (val v vs) = LengthFits t s v × LengthsFit t ss vs

  -- of the elements of a list
  pub ElemsLengthsFit : Map → ℕ → Elems → Type 0
  ElemsLengthsFit t index no_elems = Unit {0}
  ElemsLengthsFit t index (elem variant vs es) =
      LengthsFit t (node_slots t index variant) vs × ElemsLengthsFit t index es

  -- of the elements of a sequence
  pub NodesLengthsFit : Map → Nodes → Type 0
  NodesLengthsFit t no_nodes = Unit {0}
  NodesLengthsFit t (node index variant vs ns) =
      LengthsFit t (node_slots t index variant) vs × NodesLengthsFit t ns

-- of the stamp and the arguments of a statement
abbrev pub MessageLengthsFit : Map → Vals → ℕ → Vals → Type 0
MessageLengthsFit t stamp index vs =
    LengthsFit t (stamp_slots t (stamp_of t)) stamp × LengthsFit t (own_slots t index) vs
