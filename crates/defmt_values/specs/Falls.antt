-- A list inside a value is smaller than the list that the value stands in.
use Rattle.std.specs.Prelude.{◌≤◌, max, List, [], ◌∷◌, map}
use Rattle.std.proofs.Common.{arith}
use denote.Param.Weighed.{most}
use Rattle.defmt_values.specs.Plain.{val_size, vals_size, elems_size, nodes_size}
use Rattle.defmt_values.specs.View.{plain, vals_of, elems_of, nodes_of}
use Rattle.defmt_values.specs.declared.value.Value.{Value}
use Rattle.defmt_values.specs.declared.value.Value.TheVariants.{Uint, Int, Bool, Char, Str, Istr, Bytes, Bits, Format, Seq, Float, Sequence}
use Rattle.defmt_values.specs.declared.value.Item.{Item}
use Rattle.defmt_values.specs.declared.value.Node.{Node}
use Rattle.defmt_values.specs.declared.value.Args.TheDeep.{deep-Value, deep-Item, deep-Node}

value_falls : (v : Value) → deep-Value v ≤ val_size (plain v)
value_falls (Uint n) = omega arith
value_falls (Int n) = omega arith
value_falls (Bool b) = omega arith
value_falls (Char c) = omega arith
value_falls (Str s) = omega arith
value_falls (Istr i) = omega arith
value_falls (Bytes s) = omega arith
value_falls (Bits n) = omega arith
value_falls (Format node) = omega arith
value_falls (Seq s) = omega arith
value_falls (Float n) = omega arith
value_falls (Sequence ns) = omega arith

most_values : (vs : List Value) → most (λ v. deep-Value v) vs ≤ vals_size (vals_of (map plain vs))
most_values [] = omega arith
most_values (v ∷ vs) = omega (arith, value_falls v, most_values vs)

most_items : (es : List Item) → most (λ e. deep-Item e) es ≤ elems_size (elems_of es)
most_items [] = omega arith
most_items (e ∷ es) = omega (arith, most_items es)

most_nodes : (ns : List Node) → most (λ n. deep-Node n) ns ≤ nodes_size (nodes_of ns)
most_nodes [] = omega arith
most_nodes (n ∷ ns) = omega (arith, most_nodes ns)

pub values_fall : (vs : List Value)
    → max (most (λ v. deep-Value v) vs) 0 ≤ vals_size (vals_of (map plain vs))
values_fall vs = omega (arith, most_values vs)

pub items_fall : (es : List Item) → max (most (λ e. deep-Item e) es) 0 ≤ elems_size (elems_of es)
items_fall es = omega (arith, most_items es)

pub nodes_fall : (ns : List Node) → max (most (λ n. deep-Node n) ns) 0 ≤ nodes_size (nodes_of ns)
nodes_fall ns = omega (arith, most_nodes ns)
