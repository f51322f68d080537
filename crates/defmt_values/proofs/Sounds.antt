-- A list stays sound when a sound value is appended, and bytes are below 256.
use Rattle.std.proofs.Common.{◌<◌, ℕ, suc, List, [], ◌∷◌, ◌++◌, map, get_or}
use Rattle.std.specs.List.{AllByRecursion}
use Rattle.defmt_values.specs.View.{plain, vals_of, elems_of, nodes_of}
use Rattle.defmt_values.specs.Sound.{IsSound, AreSound, ElemsSound, NodesSound}
use Rattle.defmt_values.specs.declared.value.Item.{Item}
use Rattle.defmt_values.specs.declared.value.Node.{Node}
use Rattle.defmt_values.specs.declared.value.Value.{Value}

pub vals_push_sound : (vs : List Value) (v : Value) → AreSound (vals_of (map plain vs)) → IsSound (plain v)
    → AreSound (vals_of (map plain (vs ++ v ∷ [])))
vals_push_sound [] v h s = (s, tt)
vals_push_sound (u ∷ vs) v h s = (h.0, vals_push_sound vs v h.1 s)

pub elems_push_sound : (es : List Item) (e : Item) → ElemsSound (elems_of es) → AreSound e.args → ElemsSound (elems_of (es ++ e ∷ []))
elems_push_sound [] e h s = (s, tt)
elems_push_sound (d ∷ es) e h s = (h.0, elems_push_sound es e h.1 s)

pub nodes_push_sound : (ns : List Node) (n : Node) → NodesSound (nodes_of ns) → AreSound n.args → NodesSound (nodes_of (ns ++ n ∷ []))
nodes_push_sound [] n h s = (s, tt)
nodes_push_sound (m ∷ ns) n h s = (h.0, nodes_push_sound ns n h.1 s)

pub bytes_sound : (bytes : List ℕ) → ((k : ℕ) → get_or bytes k 0 < 256) → AllByRecursion (λ b. b < 256) bytes
bytes_sound [] h = tt
bytes_sound (b ∷ bytes) h = (h 0, bytes_sound bytes (λ k. h (suc k)))
