-- Arguments whose indexes have names, and which are what their types say: each can be written.
use Rattle.std.specs.Prelude.{◌<◌}
use Rattle.std.specs.Char.{IsScalar}
use Rattle.std.specs.List.{AllByRecursion}
use Rattle.std.specs.Str.{IsUtf8}
use Rattle.defmt_spelling.specs.Named.{HasName, ListNamed, IsNamed, AreNamed, ElemsNamed, NodesNamed}
use Rattle.defmt_spelling.specs.Names.{NameMap}
use Rattle.defmt_values.specs.Plain.{Val, uint, int, flag, char, str, istr, bytes, bits, format, seq, float, sequence, Vals, no_vals, val, Elems, no_elems, elem, Nodes, no_nodes, node}
use Rattle.defmt_values.specs.Sound.{IsSound, AreSound, ElemsSound, NodesSound}

abbrev mutual
  pub IsWritable : NameMap → Val → Type 0
  IsWritable names (uint n) = Unit {0}
  IsWritable names (int n) = Unit {0}
  IsWritable names (flag b) = Unit {0}
  IsWritable names (char c) = IsScalar c
  IsWritable names (str s) = IsUtf8 s
  IsWritable names (istr index) = HasName names index
  IsWritable names (bytes s) = AllByRecursion (λ b. b < 256) s
  IsWritable names (bits n) = Unit {0}
  IsWritable names (format index variant vs) = HasName names index × AreWritable names vs
  IsWritable names (seq index es) = ListNamed names index es × ElemsWritable names es
  IsWritable names (float n) = Unit {0}
  IsWritable names (sequence ns) = NodesWritable names ns

  pub AreWritable : NameMap → Vals → Type 0
  AreWritable names no_vals = Unit {0}
  AreWritable names (val v vs) = IsWritable names v × AreWritable names vs

  pub ElemsWritable : NameMap → Elems → Type 0
  ElemsWritable names no_elems = Unit {0}
  ElemsWritable names (elem variant vs es) = AreWritable names vs × ElemsWritable names es

  pub NodesWritable : NameMap → Nodes → Type 0
  NodesWritable names no_nodes = Unit {0}
  NodesWritable names (node index variant vs ns) = HasName names index × AreWritable names vs × NodesWritable names ns

module _ (names : NameMap) where
  mutual
    pub val_writable : (v : Val) → IsNamed names v → IsSound v → IsWritable names v
    val_writable (uint n) h s = tt
    val_writable (int n) h s = tt
    val_writable (flag b) h s = tt
    val_writable (char c) h s = s
    val_writable (str x) h s = s
    val_writable (istr index) h s = h
    val_writable (bytes x) h s = s
    val_writable (bits n) h s = tt
    val_writable (format index variant vs) h s = (h.0, vals_writable vs h.1 s)
    val_writable (seq index es) h s = (h.0, elems_writable es h.1 s)
    val_writable (float n) h s = tt
    val_writable (sequence ns) h s = nodes_writable ns h s

    pub vals_writable : (vs : Vals) → AreNamed names vs → AreSound vs → AreWritable names vs
    vals_writable no_vals h s = tt
    vals_writable (val v vs) h s = (val_writable v h.0 s.0, vals_writable vs h.1 s.1)

    pub elems_writable : (es : Elems) → ElemsNamed names es → ElemsSound es → ElemsWritable names es
    elems_writable no_elems h s = tt
    elems_writable (elem variant vs es) h s = (vals_writable vs h.0 s.0, elems_writable es h.1 s.1)

    pub nodes_writable : (ns : Nodes) → NodesNamed names ns → NodesSound ns → NodesWritable names ns
    nodes_writable no_nodes h s = tt
    nodes_writable (node index variant vs ns) h s = (h.0, vals_writable vs h.1 s.0, nodes_writable ns h.2 s.1)
