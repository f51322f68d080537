-- What the types of values say of them: texts are UTF-8, characters are Unicode scalar values, and bytes are below 256.
use Rattle.std.specs.Prelude.{◌<◌, IsUtf8}
use Rattle.std.specs.Char.{IsScalar}
use Rattle.std.specs.List.{AllByRecursion}
use Rattle.defmt_values.specs.Plain.{Val, uint, int, flag, char, str, istr, bytes, bits, format, seq, float, sequence, Vals, no_vals, val, Elems, no_elems, elem, Nodes, no_nodes, node}

abbrev mutual
  pub IsSound : Val → Type 0
  IsSound (uint n) = Unit {0}
  IsSound (int n) = Unit {0}
  IsSound (flag b) = Unit {0}
  IsSound (char c) = IsScalar c
  IsSound (str s) = IsUtf8 s
  IsSound (istr index) = Unit {0}
  IsSound (bytes s) = AllByRecursion (λ b. b < 256) s
  IsSound (bits n) = Unit {0}
  IsSound (format index variant vs) = AreSound vs
  IsSound (seq index es) = ElemsSound es
  IsSound (float n) = Unit {0}
  IsSound (sequence ns) = NodesSound ns

  pub AreSound : Vals → Type 0
  AreSound no_vals = Unit {0}
  AreSound (val v vs) = IsSound v × AreSound vs

  pub ElemsSound : Elems → Type 0
  ElemsSound no_elems = Unit {0}
  ElemsSound (elem variant vs es) = AreSound vs × ElemsSound es

  pub NodesSound : Nodes → Type 0
  NodesSound no_nodes = Unit {0}
  NodesSound (node index variant vs ns) = AreSound vs × NodesSound ns
