-- The plain data that values stand for.
use Rattle.std.specs.Prelude.{List, [], ◌∷◌}
use Rattle.defmt_values.specs.Plain.{Val, uint, int, flag, char, str, istr, bytes, bits, format, seq, float, sequence, Vals, no_vals, val, Elems, no_elems, elem, Nodes, no_nodes, node}
use Rattle.defmt_values.specs.declared.value.Value.{Value}
use Rattle.defmt_values.specs.declared.value.Value.TheVariants.{Uint, Int, Bool, Char, Str, Istr, Bytes, Bits, Format, Seq, Float, Sequence}
use Rattle.defmt_values.specs.declared.value.Item.{Item}
use Rattle.defmt_values.specs.declared.value.Node.{Node}

abbrev pub plain : Value → Val
plain (Uint n) = uint n
plain (Int n) = int n
plain (Bool b) = flag b
plain (Char c) = char c
plain (Str s) = str s
plain (Istr index) = istr index
plain (Bytes s) = bytes s.items
plain (Bits n) = bits n
plain (Format n) = format n.index n.variant n.args
plain (Seq s) = seq s.index s.items
plain (Float n) = float n
plain (Sequence ns) = sequence ns

abbrev pub vals_of : List Val → Vals
vals_of [] = no_vals
vals_of (v ∷ vs) = val v (vals_of vs)

abbrev pub elems_of : List Item → Elems
elems_of [] = no_elems
elems_of (e ∷ es) = elem e.variant e.args (elems_of es)

abbrev pub nodes_of : List Node → Nodes
nodes_of [] = no_nodes
nodes_of (n ∷ ns) = node n.index n.variant n.args (nodes_of ns)
