-- Steps of the loops that put values.
use Rattle.std.proofs.Common.{◌≡◌, ◌≤◌, ℕ, List, [], ◌∷◌, ◌++◌, map, refl, sym, ap, subst, ◌∙◌, arith, append_assoc}
use Rattle.std.proofs.lemmas.List.{append-nil}
use Rattle.byteorder.specs.Endian.{little_bytes}
use Rattle.defmt_grammar.specs.declared.slot.Slot.{Slot}
use Rattle.defmt_intern.specs.Table.{Map}
use Rattle.defmt_values.specs.Plain.{vals_size, elems_size, nodes_size}
use Rattle.defmt_values.specs.View.{plain, vals_of, elems_of, nodes_of}
use Rattle.defmt_values.specs.declared.value.Item.{Item}
use Rattle.defmt_values.specs.declared.value.Node.{Node}
use Rattle.defmt_values.specs.declared.value.Value.{Value}
use Rattle.defmt_encode.specs.Carry.{bytes_val, bytes_vals, bytes_elems, bytes_nodes, variant_byte, node_slots}
use Rattle.defmt_encode.specs.Out.{Wrote, Refuses}
use Rattle.defmt_encode.proofs.Chain.{refused_more, refused_behind}

pub joins_on : (done one others whole all : List ℕ) → whole ≡ one ++ others → done ++ whole ≡ all → (done ++ one) ++ others ≡ all
joins_on done one others whole all p q = append_assoc done one others ∙ ap (λ t. done ++ t) (sym p) ∙ q

pub passes : (old mid new : List ℕ) (at end : ℕ) (done one others whole all : List ℕ) → whole ≡ one ++ others → done ++ whole ≡ all → Wrote old mid at end done → Refuses mid new end one → Refuses old new at all
passes old mid new at end done one others whole all p q w r =
    subst (λ (t : List ℕ). Refuses old new at t) (joins_on done one others whole all p q)
    (refused_more old new at (done ++ one) others (refused_behind old mid new at end done one w r))

pub done_all : (old new : List ℕ) (at n : ℕ) (done all whole : List ℕ) → Wrote old new at n done → done ++ whole ≡ all → whole ≡ [] → Wrote old new at n all
done_all old new at n done all whole w q e = subst (λ (t : List ℕ). Wrote old new at n t) (sym (append-nil done) ∙ ap (λ t. done ++ t) (sym e) ∙ q) w

module _ (t : Map) (values more : List Value) (v : Value) (p : values ≡ v ∷ more) where
  pub vals_step : (slots others : List Slot) (x : Slot) → slots ≡ x ∷ others → bytes_vals t slots (vals_of (map plain values)) ≡ bytes_val t x (plain v) ++ bytes_vals t others (vals_of (map plain more))
  unfolding bytes_vals
  vals_step slots others x q = rw (p, q) refl

  pub slots_none : (slots : List Slot) → slots ≡ [] → bytes_vals t slots (vals_of (map plain values)) ≡ []
  unfolding bytes_vals
  slots_none slots q = rw (p, q) refl

  pub vals_smaller : (n : ℕ) → vals_size (vals_of (map plain values)) ≤ n → vals_size (vals_of (map plain more)) ≤ n
  vals_smaller n h = let e = ap (λ (xs : List Value). vals_size (vals_of (map plain xs))) p in omega (arith, e)

pub vals_none : (t : Map) (slots : List Slot) (values : List Value) → values ≡ [] → bytes_vals t slots (vals_of (map plain values)) ≡ []
unfolding bytes_vals
vals_none t slots values p = rw p refl

module _ (t : Map) (i : ℕ) (items more : List Item) (x : Item) (p : items ≡ x ∷ more) where
  pub elems_step : bytes_elems t i (elems_of items) ≡ (variant_byte x.variant ++ bytes_vals t (node_slots t i x.variant) x.args) ++ bytes_elems t i (elems_of more)
  unfolding bytes_elems
  elems_step = rw p refl

  pub elems_smaller : (n : ℕ) → elems_size (elems_of items) ≤ n → elems_size (elems_of more) ≤ n
  elems_smaller n h = let e = ap (λ (xs : List Item). elems_size (elems_of xs)) p in omega (arith, e)

pub elems_none : (t : Map) (i : ℕ) (items : List Item) → items ≡ [] → bytes_elems t i (elems_of items) ≡ []
unfolding bytes_elems
elems_none t i items p = rw p refl

module _ (t : Map) (nodes more : List Node) (x : Node) (p : nodes ≡ x ∷ more) where
  pub nodes_step : bytes_nodes t (nodes_of nodes) ≡ ((little_bytes 2 x.index ++ variant_byte x.variant) ++ bytes_vals t (node_slots t x.index x.variant) x.args) ++ bytes_nodes t (nodes_of more)
  unfolding bytes_nodes
  nodes_step = rw p refl

  pub nodes_smaller : (n : ℕ) → nodes_size (nodes_of nodes) ≤ n → nodes_size (nodes_of more) ≤ n
  nodes_smaller n h = let e = ap (λ (xs : List Node). nodes_size (nodes_of xs)) p in omega (arith, e)

pub nodes_none : (t : Map) (nodes : List Node) → nodes ≡ [] → bytes_nodes t (nodes_of nodes) ≡ []
unfolding bytes_nodes
nodes_none t nodes p = rw p refl
