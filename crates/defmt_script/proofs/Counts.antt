-- How many names there are.
use Rattle.std.proofs.Common.{◌≡◌, ◌+◌, ℕ, Bool, true, false, cond, List, [], ◌∷◌, length, Option, Some, None, refl, sym, ap, ◌∙◌, arith, Ordering, Less, Equal, Greater, is_eq, nat_cmp}
use Rattle.std.specs.FinMap as map
use Rattle.std.specs.FinMap.{entries-insert, find, get-entries, len-empty, len-entries}
use Rattle.std.specs.FinMap.Entries.{by_order, put}
use Rattle.std.specs.Cmp.Lexicographic.{nat_list_cmp_total, slice_cmp}
use Rattle.defmt_spelling.specs.Names.{NameMap}

abbrev Named : Type 0
Named = List (List ℕ × ℕ)

not_here : (b : Bool) (x : ℕ) (o : Option ℕ) → cond b (Some x) o ≡ None → (b ≡ false) × (o ≡ None)
not_here true x o h = absurd cc
not_here false x o h = (refl, h)

by_order_length : (o : Ordering) (e : List ℕ × ℕ) (es : Named) (k : List ℕ) (v : ℕ) (more : Named) → slice_cmp nat_cmp k e.0 ≡ o → is_eq o ≡ false → length more ≡ length es + 1
    → length (by_order o ((k, v) ∷ e ∷ es) ((e.0, v) ∷ es) (e ∷ more)) ≡ length (e ∷ es) + 1
by_order_length Less e es k v more c n h = omega arith
by_order_length Equal e es k v more c n h = absurd cc
by_order_length Greater e es k v more c n h = omega (arith, h)

length-put : (es : Named) (k : List ℕ) (v : ℕ) → find (slice_cmp nat_cmp) k es ≡ None → length (put (slice_cmp nat_cmp) k v es) ≡ length es + 1
length-put [] k v none = refl
length-put (e ∷ es) k v none =
    let n = not_here (is_eq (slice_cmp nat_cmp k e.0)) e.1 (find (slice_cmp nat_cmp) k es) none in
    by_order_length (slice_cmp nat_cmp k e.0) e es k v (put (slice_cmp nat_cmp) k v es) refl n.0 (length-put es k v n.1)

-- a new name is one more
pub len-added : (names : NameMap) (name : List ℕ) (k : ℕ) → map.get names name ≡ None → map.len (map.insert names name k) ≡ map.len names + 1
len-added names name k none =
    len-entries (map.insert names name k) ∙ ap length (entries-insert nat_list_cmp_total names name k)
    ∙ length-put (map.entries names) name k (sym (get-entries names name) ∙ none) ∙ ap (λ (n : ℕ). n + 1) (sym (len-entries names))

abbrev empty : NameMap
empty = map.empty

pub no_names : map.len empty ≡ 0
no_names = len-empty (slice_cmp nat_cmp) ℕ

pub none_named : (names : NameMap) → names ≡ empty → map.len names ≡ 0
none_named names is = ap (λ (m : NameMap). map.len m) is ∙ no_names
