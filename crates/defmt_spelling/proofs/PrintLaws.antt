-- What is written, one piece after another.
use Rattle.std.proofs.Common.{◌≡◌, ◌≤◌, ℕ, Bool, false, List, [], ◌∷◌, ◌++◌, map, sym, ap, subst, ◌∙◌, arith, append_assoc}
use Rattle.std.proofs.lemmas.List.{append-nil}
use Rattle.defmt_grammar.specs.declared.slot.Slot.{Slot}
use Rattle.defmt_intern.specs.Table.{Map}
use Rattle.defmt_spelling.specs.Names.{NameMap}
use Rattle.defmt_spelling.specs.Printed.{gap, item_mark, node_slots, first_slot, more_slots, printed_val, inside_text, node_text, vals_text, elems_text, nodes_text}
use Rattle.defmt_values.specs.Plain.{vals_size, elems_size, nodes_size}
use Rattle.defmt_values.specs.View.{plain, vals_of, elems_of, nodes_of}
use Rattle.defmt_values.specs.declared.value.Item.{Item}
use Rattle.defmt_values.specs.declared.value.Node.{Node}
use Rattle.defmt_values.specs.declared.value.Value.{Value}

-- a piece was written, and the rest follows
one_piece : (old new piece later total : List ℕ) → new ≡ old ++ piece → old ++ (piece ++ later) ≡ total → new ++ later ≡ total
one_piece old new piece later total e h = ap (λ (x : List ℕ). x ++ later) e ∙ append_assoc old piece later ∙ h

two_pieces : (old one two first second later total : List ℕ) → one ≡ old ++ first → two ≡ one ++ second → old ++ (first ++ (second ++ later)) ≡ total → two ++ later ≡ total
two_pieces old one two first second later total e f h = one_piece one two second later total f (one_piece old one first (second ++ later) total e h)

module _ (names : NameMap) (t : Map) where
  pub vals_more : (values more : List Value) (v : Value) (first : Bool) (there behind : List Slot) (slot : Slot) (old one two total : List ℕ) → values ≡ v ∷ more → slot ≡ first_slot there → behind ≡ more_slots there → one ≡ old ++ gap first
      → two ≡ one ++ printed_val names t slot (plain v) → old ++ vals_text names t first there (vals_of (map plain values)) ≡ total → two ++ vals_text names t false behind (vals_of (map plain more)) ≡ total
  unfolding printed_val
  vals_more values more v first there behind slot old one two total e a b f g h =
      two_pieces old one two (gap first) (printed_val names t slot (plain v)) (vals_text names t false behind (vals_of (map plain more))) total f g
      (rw (a, b) (subst (λ (x : List Value). old ++ vals_text names t first there (vals_of (map plain x)) ≡ total) e h))

  pub vals_end : (values : List Value) (first : Bool) (there : List Slot) (old total : List ℕ) → values ≡ [] → old ++ vals_text names t first there (vals_of (map plain values)) ≡ total → old ≡ total
  unfolding printed_val
  vals_end values first there old total e h = sym (append-nil old) ∙ subst (λ (x : List Value). old ++ vals_text names t first there (vals_of (map plain x)) ≡ total) e h

  pub elems_more : (index : ℕ) (items more : List Item) (i : Item) (first : Bool) (old one two total : List ℕ) → items ≡ i ∷ more → one ≡ old ++ gap first → two ≡ one ++ (item_mark i.variant ++ inside_text names t (node_slots t index i.variant) i.args)
      → old ++ elems_text names t first index (elems_of items) ≡ total → two ++ elems_text names t false index (elems_of more) ≡ total
  unfolding printed_val
  elems_more index items more i first old one two total e f g h =
      two_pieces old one two (gap first) (item_mark i.variant ++ inside_text names t (node_slots t index i.variant) i.args) (elems_text names t false index (elems_of more)) total f g (subst (λ (x : List Item). old ++ elems_text names t first index (elems_of x) ≡ total) e h)

  pub elems_end : (index : ℕ) (items : List Item) (first : Bool) (old total : List ℕ) → items ≡ [] → old ++ elems_text names t first index (elems_of items) ≡ total → old ≡ total
  unfolding printed_val
  elems_end index items first old total e h = sym (append-nil old) ∙ subst (λ (x : List Item). old ++ elems_text names t first index (elems_of x) ≡ total) e h

  pub nodes_more : (nodes more : List Node) (n : Node) (first : Bool) (old one two total : List ℕ) → nodes ≡ n ∷ more → one ≡ old ++ gap first → two ≡ one ++ node_text names t n.index n.variant n.args
      → old ++ nodes_text names t first (nodes_of nodes) ≡ total → two ++ nodes_text names t false (nodes_of more) ≡ total
  unfolding printed_val
  nodes_more nodes more n first old one two total e f g h =
      two_pieces old one two (gap first) (node_text names t n.index n.variant n.args) (nodes_text names t false (nodes_of more)) total f g (subst (λ (x : List Node). old ++ nodes_text names t first (nodes_of x) ≡ total) e h)

  pub nodes_end : (nodes : List Node) (first : Bool) (old total : List ℕ) → nodes ≡ [] → old ++ nodes_text names t first (nodes_of nodes) ≡ total → old ≡ total
  unfolding printed_val
  nodes_end nodes first old total e h = sym (append-nil old) ∙ subst (λ (x : List Node). old ++ nodes_text names t first (nodes_of x) ≡ total) e h

-- what is left is no larger
pub others_smaller : (values more : List Value) (v : Value) (n : ℕ) → values ≡ v ∷ more → vals_size (vals_of (map plain values)) ≤ n → vals_size (vals_of (map plain more)) ≤ n
others_smaller values more v n e h = let k = subst (λ (x : List Value). vals_size (vals_of (map plain x)) ≤ n) e h in omega (arith, k)

pub items_smaller : (items more : List Item) (i : Item) (n : ℕ) → items ≡ i ∷ more → elems_size (elems_of items) ≤ n → elems_size (elems_of more) ≤ n
items_smaller items more i n e h = let k = subst (λ (x : List Item). elems_size (elems_of x) ≤ n) e h in omega (arith, k)

pub nodes_smaller : (nodes more : List Node) (i : Node) (n : ℕ) → nodes ≡ i ∷ more → nodes_size (nodes_of nodes) ≤ n → nodes_size (nodes_of more) ≤ n
nodes_smaller nodes more i n e h = let k = subst (λ (x : List Node). nodes_size (nodes_of x) ≤ n) e h in omega (arith, k)
