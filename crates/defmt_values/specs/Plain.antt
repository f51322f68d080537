-- Values of arguments as plain data, which definitions can build (defmt book, the arguments of a log statement).
use Rattle.std.specs.Prelude.{◌+◌, ℕ, zero, suc, ℤ, List, Bool, true, false, Option, Some, None}

-- a value of each kind, a list of values, a list of elements, each with its variant where it has one, and a list of Format
-- values, each with its index too
mutual
  pub data Val : Type 0 where
    uint : ℕ → Val
    int : ℤ → Val
    flag : Bool → Val
    char : ℕ → Val
    str : List ℕ → Val
    istr : ℕ → Val
    bytes : List ℕ → Val
    bits : ℕ → Val
    format : ℕ → Option ℕ → Vals → Val
    seq : Option ℕ → Elems → Val
    float : ℕ → Val
    sequence : Nodes → Val

  pub data Vals : Type 0 where
    no_vals : Vals
    val : Val → Vals → Vals

  pub data Elems : Type 0 where
    no_elems : Elems
    elem : Option ℕ → Vals → Elems → Elems

  pub data Nodes : Type 0 where
    no_nodes : Nodes
    node : ℕ → Option ℕ → Vals → Nodes → Nodes

-- one more at the end
abbrev pub snoc : Vals → Val → Vals
snoc no_vals v = val v no_vals
snoc (val u vs) v = val u (snoc vs v)

abbrev pub snoc_elem : Elems → Option ℕ → Vals → Elems
snoc_elem no_elems o vs = elem o vs no_elems
snoc_elem (elem p us es) o vs = elem p us (snoc_elem es o vs)

abbrev pub snoc_node : Nodes → ℕ → Option ℕ → Vals → Nodes
snoc_node no_nodes i o vs = node i o vs no_nodes
snoc_node (node j p us ns) i o vs = node j p us (snoc_node ns i o vs)

-- one list behind the other
abbrev pub join_vals : Vals → Vals → Vals
join_vals no_vals ws = ws
join_vals (val v vs) ws = val v (join_vals vs ws)

abbrev pub join_elems : Elems → Elems → Elems
join_elems no_elems fs = fs
join_elems (elem o vs es) fs = elem o vs (join_elems es fs)

abbrev pub join_nodes : Nodes → Nodes → Nodes
join_nodes no_nodes ms = ms
join_nodes (node i o vs ns) ms = node i o vs (join_nodes ns ms)

-- how many lists and elements stand in it
abbrev mutual
  pub val_size : Val → ℕ
  val_size (uint n) = 0
  val_size (int n) = 0
  val_size (flag b) = 0
  val_size (char c) = 0
  val_size (str s) = 0
  val_size (istr i) = 0
  val_size (bytes s) = 0
  val_size (bits n) = 0
  val_size (format i o vs) = vals_size vs + 1
  val_size (seq i es) = elems_size es + 1
  val_size (float n) = 0
  val_size (sequence ns) = nodes_size ns + 1

  pub vals_size : Vals → ℕ
  vals_size no_vals = 0
  vals_size (val v vs) = val_size v + vals_size vs

  pub elems_size : Elems → ℕ
  elems_size no_elems = 0
  elems_size (elem o vs es) = vals_size vs + elems_size es + 1

  pub nodes_size : Nodes → ℕ
  nodes_size no_nodes = 0
  nodes_size (node i o vs ns) = vals_size vs + nodes_size ns + 1

abbrev pub vals_len : Vals → ℕ
vals_len no_vals = 0
vals_len (val v vs) = vals_len vs + 1

abbrev pub vals_empty : Vals → Bool
vals_empty no_vals = true
vals_empty (val v vs) = false

abbrev pub elems_len : Elems → ℕ
elems_len no_elems = 0
elems_len (elem o vs es) = elems_len es + 1

abbrev pub elems_empty : Elems → Bool
elems_empty no_elems = true
elems_empty (elem o vs es) = false

abbrev pub nodes_len : Nodes → ℕ
nodes_len no_nodes = 0
nodes_len (node i o vs ns) = nodes_len ns + 1

abbrev pub nodes_empty : Nodes → Bool
nodes_empty no_nodes = true
nodes_empty (node i o vs ns) = false

-- the value of a position
abbrev pub vals_get : Vals → ℕ → Option Val
vals_get no_vals position = None
vals_get (val v vs) zero = Some v
vals_get (val v vs) (suc position) = vals_get vs position
