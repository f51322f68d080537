-- Arguments whose indexes have names.
use Rattle.std.specs.Prelude.{◌≡◌, ℕ, List, Option, Some}
use Rattle.defmt_shapes.specs.Shape.{IsName}
use Rattle.defmt_spelling.specs.Names.{NameMap, name_of}
use Rattle.defmt_values.specs.Plain.{Val, uint, int, flag, char, str, istr, bytes, bits, format, seq, float, sequence, Vals, no_vals, val, Elems, no_elems, elem, Nodes, no_nodes, node}
use Rattle.defmt_values.specs.Scan.{index_or}

-- the index has a name, and the least of its names is spelled as names are
pub record HasName (names : NameMap) (index : ℕ) : Type 0 where
  pub name : List ℕ
  pub is : name_of names index ≡ Some name
  pub spelled : IsName name

-- a list that has elements names their entry
abbrev pub ListNamed : NameMap → Option ℕ → Elems → Type 0
ListNamed names index no_elems = Unit {0}
ListNamed names index (elem variant vs es) = HasName names (index_or index)

abbrev mutual
  -- each index in the value has a name
  pub IsNamed : NameMap → Val → Type 0
  IsNamed names (uint n) = Unit {0}
  IsNamed names (int n) = Unit {0}
  IsNamed names (flag b) = Unit {0}
  IsNamed names (char c) = Unit {0}
  IsNamed names (str s) = Unit {0}
  IsNamed names (istr index) = HasName names index
  IsNamed names (bytes s) = Unit {0}
  IsNamed names (bits n) = Unit {0}
  IsNamed names (format index variant vs) = HasName names index × AreNamed names vs
  IsNamed names (seq index es) = ListNamed names index es × ElemsNamed names es
  IsNamed names (float n) = Unit {0}
  IsNamed names (sequence ns) = NodesNamed names ns

  pub AreNamed : NameMap → Vals → Type 0
  AreNamed names no_vals = Unit {0}
  AreNamed names (val v vs) = IsNamed names v × AreNamed names vs

  pub ElemsNamed : NameMap → Elems → Type 0
  ElemsNamed names no_elems = Unit {0}
  ElemsNamed names (elem variant vs es) = AreNamed names vs × ElemsNamed names es

  pub NodesNamed : NameMap → Nodes → Type 0
  NodesNamed names no_nodes = Unit {0}
  NodesNamed names (node index variant vs ns) =
      HasName names index × AreNamed names vs × NodesNamed names ns
