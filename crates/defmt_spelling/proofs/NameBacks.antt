-- The index of a name that an index has.
use Rattle.std.proofs.Common.{◌≡◌, ◌==◌, ℕ, Bool, true, false, cond, List, [], ◌∷◌, Option, Some, T, is_eq, is_lt, Ordering, Less, Equal, Greater, nat_cmp, refl, sym, ap, subst, ◌∙◌}
use Rattle.std.specs.Prelude.{unwrap_or}
use Rattle.std.specs.Cmp.{eq_by_cmp_equiv}
use Rattle.std.specs.Cmp.Lexicographic.{slice_cmp, nat_list_cmp_total}
use Rattle.std.specs.FinMap as map
use Rattle.std.specs.FinMap.{find, is_sorted, get-entries}
use Rattle.std.specs.FinMap.Entries.{below_all}
use Rattle.std.proofs.lemmas.Bool.{eqb-true, and_parts}
use Rattle.defmt_shapes.specs.Shape.{IsName}
use Rattle.defmt_spelling.proofs.NameLaws.{turned}
use Rattle.defmt_spelling.specs.Meaning.{index_of}
use Rattle.defmt_spelling.specs.Named.{HasName}
use Rattle.defmt_spelling.specs.Names.{NameMap, first_named}
use Rattle.defmt_spelling.specs.Printed.{name_text}

abbrev before : List ℕ → List ℕ → Ordering
before x y = slice_cmp nat_cmp x y

same_name : (x y : List ℕ) → Some x ≡ Some y → x ≡ y
same_name x y e = ap (λ (o : Option (List ℕ)). unwrap_or o []) e

less_by : (b : Bool) (e : List ℕ × ℕ) (k name : List ℕ) (o : Option (List ℕ)) → is_lt (before k e.0) ≡ true → (o ≡ Some name → is_lt (before k name) ≡ true) → cond {A = Option (List ℕ)} b (Some e.0) o ≡ Some name → is_lt (before k name) ≡ true
less_by true e k name o less later h = subst (λ (x : List ℕ). is_lt (before k x) ≡ true) (same_name e.0 name h) less
less_by false e k name o less later h = later h

key_less : (k : List ℕ) (es : List (List ℕ × ℕ)) (index : ℕ) (name : List ℕ) → below_all (slice_cmp nat_cmp) k es ≡ true → first_named es index ≡ Some name → is_lt (before k name) ≡ true
key_less k [] index name b h = absurd (cc)
key_less k (e ∷ es) index name b h =
    let p = and_parts (is_lt (before k e.0)) (below_all (slice_cmp nat_cmp) k es) b in
    less_by (e.1 == index) e k name (first_named es index) p.0 (key_less k es index name p.1) h

less_apart : (o : Ordering) → is_lt o ≡ true → is_eq o ≡ false
less_apart Less h = refl
less_apart Equal h = absurd (cc)
less_apart Greater h = absurd (cc)

found_by : (b : Bool) (e : List ℕ × ℕ) (es : List (List ℕ × ℕ)) (index : ℕ) (name : List ℕ) → (e.1 == index) ≡ b → below_all (slice_cmp nat_cmp) e.0 es ≡ true → (first_named es index ≡ Some name → find (slice_cmp nat_cmp) name es ≡ Some index)
    → cond {A = Option (List ℕ)} b (Some e.0) (first_named es index) ≡ Some name → cond {A = Option ℕ} (is_eq (before name e.0)) (Some e.1) (find (slice_cmp nat_cmp) name es) ≡ Some index
found_by true e es index name t below later h =
    let same : e.0 ≡ name = same_name e.0 name h in
    let tied : is_eq (before name e.0) ≡ true = ap (λ (x : List ℕ). is_eq (before name x)) same ∙ (eq_by_cmp_equiv nat_list_cmp_total).refl name in
    rw tied (ap Some (eqb-true e.1 index t))
found_by false e es index name t below later h =
    let apart : is_eq (before name e.0) ≡ false = turned e.0 name ∙ less_apart (before e.0 name) (key_less e.0 es index name below h) in
    rw apart (later h)

found_back : (es : List (List ℕ × ℕ)) (index : ℕ) (name : List ℕ) → is_sorted (slice_cmp nat_cmp) es ≡ true → first_named es index ≡ Some name → find (slice_cmp nat_cmp) name es ≡ Some index
found_back [] index name s h = absurd (cc)
found_back (e ∷ es) index name s h =
    let p = and_parts (below_all (slice_cmp nat_cmp) e.0 es) (is_sorted (slice_cmp nat_cmp) es) s in
    found_by (e.1 == index) e es index name refl p.0 (found_back es index name p.1) h

from_T : (b : Bool) → T b → b ≡ true
from_T true h = refl
from_T false h = absurd h

pub one_index : (i j : ℕ) → Some i ≡ Some j → i ≡ j
one_index i j e = ap (λ (o : Option ℕ). unwrap_or o 0) e

module _ (names : NameMap) where
  name_is : (index : ℕ) (h : HasName names index) → name_text names index ≡ h.name
  name_is index h = ap (λ (o : Option (List ℕ)). unwrap_or o []) h.is

  pub name_spelled : (index : ℕ) → HasName names index → IsName (name_text names index)
  name_spelled index h = subst IsName (sym (name_is index h)) h.spelled

  pub index_back : (index : ℕ) → HasName names index → index_of names (name_text names index) ≡ index
  index_back index h =
      let got : map.get names h.name ≡ Some index = get-entries names h.name ∙ found_back (map.entries names) index h.name (from_T _ (map.entries_sorted names)) h.is in
      ap (index_of names) (name_is index h) ∙ ap (λ (o : Option ℕ). unwrap_or o 65536) got
