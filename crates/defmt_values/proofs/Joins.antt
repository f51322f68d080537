-- Lists of values, of elements and of Format values, put together.
use Rattle.std.proofs.Common.{◌≡◌, ℕ, Option, refl, ap}
use Rattle.defmt_values.specs.Plain.{Val, Vals, no_vals, val, Elems, no_elems, elem, Nodes, no_nodes, node, snoc, snoc_elem, snoc_node, join_vals, join_elems, join_nodes}

pub join_snoc : (vs : Vals) (v : Val) (ws : Vals) → join_vals (snoc vs v) ws ≡ join_vals vs (val v ws)
join_snoc no_vals v ws = refl
join_snoc (val u vs) v ws = ap (val u) (join_snoc vs v ws)

pub join_none : (vs : Vals) → join_vals vs no_vals ≡ vs
join_none no_vals = refl
join_none (val v vs) = ap (val v) (join_none vs)

pub join_snoc_elem : (es : Elems) (o : Option ℕ) (vs : Vals) (fs : Elems) → join_elems (snoc_elem es o vs) fs ≡ join_elems es (elem o vs fs)
join_snoc_elem no_elems o vs fs = refl
join_snoc_elem (elem p us es) o vs fs = ap (elem p us) (join_snoc_elem es o vs fs)

pub join_no_elems : (es : Elems) → join_elems es no_elems ≡ es
join_no_elems no_elems = refl
join_no_elems (elem o vs es) = ap (elem o vs) (join_no_elems es)

pub join_snoc_node : (ns : Nodes) (i : ℕ) (o : Option ℕ) (vs : Vals) (ms : Nodes) → join_nodes (snoc_node ns i o vs) ms ≡ join_nodes ns (node i o vs ms)
join_snoc_node no_nodes i o vs ms = refl
join_snoc_node (node j p us ns) i o vs ms = ap (node j p us) (join_snoc_node ns i o vs ms)

pub join_no_nodes : (ns : Nodes) → join_nodes ns no_nodes ≡ ns
join_no_nodes no_nodes = refl
join_no_nodes (node i o vs ns) = ap (node i o vs) (join_no_nodes ns)
