-- What the list types show of the values that they hold.
use Rattle.std.proofs.Common.{ℕ, zero, suc, Option, Some, None, ◌==◌, length, arith, sym, ◌∙◌, ◌≡◌, List, [], ◌∷◌, ◌++◌, map, refl, ap}
use Rattle.std.specs.Borrow.{Bor}
use Rattle.std.specs.List.{slice_get}
use Rattle.std.specs.Option.{option_copied, option_map}
use Rattle.defmt_values.specs.Plain.{Vals, vals_get, val, snoc, elem, snoc_elem, elems_len, elems_empty, node, snoc_node, nodes_len, nodes_empty, vals_len, vals_empty}
use Rattle.defmt_values.specs.View.{plain, vals_of, elems_of, nodes_of}
use Rattle.defmt_values.specs.declared.value.Value.{Value}
use Rattle.defmt_values.specs.declared.value.Item.{Item}
use Rattle.defmt_values.specs.declared.value.Node.{Node}
use Rattle.std.proofs.lemmas.Bool.Decides.{nat_tests}

pub vals_push : (vs : List Value) (v : Value) → vals_of (map plain (vs ++ v ∷ [])) ≡ snoc (vals_of (map plain vs)) (plain v)
vals_push [] v = refl
vals_push (u ∷ vs) v = ap (λ us. val (plain u) us) (vals_push vs v)

pub elems_push : (es : List Item) (e : Item) → elems_of (es ++ e ∷ []) ≡ snoc_elem (elems_of es) e.variant e.args
elems_push [] e = refl
elems_push (d ∷ es) e = ap (λ fs. elem d.variant d.args fs) (elems_push es e)

pub elems_count : (es : List Item) → length es ≡ elems_len (elems_of es)
elems_count [] = refl
elems_count (e ∷ es) = omega (arith, elems_count es)

pub elems_none : (es : List Item) → (length es == 0) ≡ elems_empty (elems_of es)
elems_none [] = refl
elems_none (e ∷ es) = grind (arith, nat_tests)

pub nodes_push : (ns : List Node) (n : Node) → nodes_of (ns ++ n ∷ []) ≡ snoc_node (nodes_of ns) n.index n.variant n.args
nodes_push [] n = refl
nodes_push (m ∷ ns) n = ap (λ ms. node m.index m.variant m.args ms) (nodes_push ns n)

pub nodes_count : (ns : List Node) → length ns ≡ nodes_len (nodes_of ns)
nodes_count [] = refl
nodes_count (n ∷ ns) = omega (arith, nodes_count ns)

pub nodes_none : (ns : List Node) → (length ns == 0) ≡ nodes_empty (nodes_of ns)
nodes_none [] = refl
nodes_none (n ∷ ns) = grind (arith, nat_tests)

pub vals_count : (vs : List Value) → length vs ≡ vals_len (vals_of (map plain vs))
vals_count [] = refl
vals_count (v ∷ vs) = omega (arith, vals_count vs)

pub vals_none : (vs : List Value) → (length vs == 0) ≡ vals_empty (vals_of (map plain vs))
vals_none [] = refl
vals_none (v ∷ vs) = grind (arith, nat_tests)

get_of : (items : List Value) (p : ℕ) → option_map plain (slice_get items p) ≡ vals_get (vals_of (map plain items)) p
get_of [] p = refl
get_of (v ∷ vs) zero = refl
get_of (v ∷ vs) (suc p) = get_of vs p

copied : (r : Option (Bor Value)) → option_map plain (option_copied r) ≡ option_map (λ v. plain v.now) r
copied None = refl
copied (Some v) = refl

pub get_is : (r : Option (Bor Value)) (items : List Value) (vs : Vals) (p : ℕ) → option_copied r ≡ slice_get items p → vs ≡ vals_of (map plain items) → option_map (λ v. plain v.now) r ≡ vals_get vs p
get_is r items vs p e k = sym (copied r) ∙ ap (λ o. option_map plain o) e ∙ get_of items p ∙ ap (λ ws. vals_get ws p) (sym k)
