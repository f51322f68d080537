-- The texts of parameters, pieces and elements, one behind another.
use Rattle.std.proofs.Common.{◌≡◌, ◌≤◌, ℕ, zero, suc, Bool, true, false, List, [], ◌∷◌, ◌++◌, Option, Some, None, refl, ap, arith}
use Rattle.std.specs.List.{slice_get, flat_map}
use Rattle.std.specs.Option.{option_map}
use Rattle.std.specs.Prelude.{codes}
use Rattle.defmt_grammar.specs.declared.hint.Hint.{Hint}
use Rattle.defmt_grammar.specs.declared.kind.Kind.{Kind}
use Rattle.defmt_grammar.specs.declared.piece.Piece.{Piece}
use Rattle.defmt_hints.specs.Printed.{parted}
use Rattle.defmt_intern.specs.Table.{Map}
use Rattle.defmt_values.specs.Plain.{Val, Vals, no_vals, val, vals_get, val_size, vals_size, elems_size, nodes_size}
use Rattle.defmt_values.specs.View.{elems_of, nodes_of}
use Rattle.defmt_values.specs.declared.value.Item.{Item}
use Rattle.defmt_values.specs.declared.value.Node.{Node}
use Rattle.defmt_eager.specs.Answers.{comma}
use Rattle.defmt_eager.specs.Show.{Shown, show_val, shows, show_elems, show_nodes, acting, pieces_text, piece_text, node_pieces, param_text}

-- ---- the text of a parameter

shows_get : (t : Map) (vs : Vals) (p : ℕ) → slice_get (shows t vs) p ≡ option_map (λ v. show_val t v) (vals_get vs p)
unfolding shows
shows_get t no_vals p = refl
shows_get t (val v vs) zero = refl
shows_get t (val v vs) (suc p) = shows_get t vs p

pub param_none : (t : Map) (outer : Hint) (vs : Vals) (p : ℕ) (kind : Kind) (hint : Hint) → None ≡ vals_get vs p → [] ≡ param_text outer (shows t vs) p kind hint
param_none t outer vs p kind hint e = rw (shows_get t vs p, ← e) refl

pub param_some : (t : Map) (outer : Hint) (vs : Vals) (p : ℕ) (kind : Kind) (hint : Hint) (v : Val) → Some v ≡ vals_get vs p → show_val t v kind (acting outer hint) ≡ param_text outer (shows t vs) p kind hint
param_some t outer vs p kind hint v e = rw (shows_get t vs p, ← e) refl

abbrev some_val : Val → Option Val
some_val v = Some v

pub size_get : (vs : Vals) (p : ℕ) (v : Val) → some_val v ≡ vals_get vs p → val_size v ≤ vals_size vs
size_get no_vals p v e = absurd (cc)
size_get (val u us) zero v e = let k : v ≡ u = cc in omega (arith, ap val_size k)
size_get (val u us) (suc p) v e = omega (arith, size_get us p v e)

-- ---- loops

pub pieces_step : (outer : Hint) (rest more : List Piece) (x : Piece) (all : List Shown) → rest ≡ x ∷ more → pieces_text outer rest all ≡ piece_text outer x all ++ pieces_text outer more all
unfolding pieces_text
pieces_step outer rest more x all p = rw p refl

pub pieces_none : (outer : Hint) (rest : List Piece) (all : List Shown) → rest ≡ [] → pieces_text outer rest all ≡ []
unfolding pieces_text
pieces_none outer rest all p = rw p refl

-- the elements that are still to come, of which the first one of all has nothing before it
abbrev pub joined : Bool → List (List ℕ) → List ℕ
joined true xs = parted xs
joined false xs = flat_map (λ y. codes ", " ++ y) xs

joined_step : (first : Bool) (x : List ℕ) (xs : List (List ℕ)) → joined first (x ∷ xs) ≡ (comma first ++ x) ++ joined false xs
joined_step true x xs = refl
joined_step false x xs = refl

joined_none : (first : Bool) → joined first [] ≡ []
joined_none true = refl
joined_none false = refl

pub elems_step : (t : Map) (i : ℕ) (hint : Hint) (first : Bool) (items more : List Item) (x : Item) → items ≡ x ∷ more → joined first (show_elems t i hint (elems_of items)) ≡ (comma first ++ pieces_text hint (node_pieces t i x.variant) (shows t x.args)) ++ joined false (show_elems t i hint (elems_of more))
unfolding show_elems
elems_step t i hint first items more x p = rw p (joined_step first (pieces_text hint (node_pieces t i x.variant) (shows t x.args)) (show_elems t i hint (elems_of more)))

pub elems_none : (t : Map) (i : ℕ) (hint : Hint) (first : Bool) (items : List Item) → items ≡ [] → joined first (show_elems t i hint (elems_of items)) ≡ []
unfolding show_elems
elems_none t i hint first items p = rw p (joined_none first)

pub elems_smaller : (items more : List Item) (x : Item) (n : ℕ) → items ≡ x ∷ more → elems_size (elems_of items) ≤ n → elems_size (elems_of more) ≤ n
elems_smaller items more x n p h = let e = ap (λ (xs : List Item). elems_size (elems_of xs)) p in omega (arith, e)

-- ---- sequences

pub nodes_step : (t : Map) (hint : Hint) (nodes more : List Node) (x : Node) → nodes ≡ x ∷ more → show_nodes t hint (nodes_of nodes) ≡ pieces_text hint (node_pieces t x.index x.variant) (shows t x.args) ++ show_nodes t hint (nodes_of more)
unfolding show_nodes
nodes_step t hint nodes more x p = rw p refl

pub nodes_none : (t : Map) (hint : Hint) (nodes : List Node) → nodes ≡ [] → show_nodes t hint (nodes_of nodes) ≡ []
unfolding show_nodes
nodes_none t hint nodes p = rw p refl

pub nodes_smaller : (nodes more : List Node) (x : Node) (n : ℕ) → nodes ≡ x ∷ more → nodes_size (nodes_of nodes) ≤ n → nodes_size (nodes_of more) ≤ n
nodes_smaller nodes more x n p h = let e = ap (λ (xs : List Node). nodes_size (nodes_of xs)) p in omega (arith, e)
