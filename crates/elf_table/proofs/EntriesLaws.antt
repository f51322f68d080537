-- The entries of a map, in the order of their keys.
use Rattle.std.proofs.Common.{◌≡◌, ◌<◌, ℕ, zero, suc, Bool, true, false, cond, List, [], ◌∷◌, Some, refl, sym, ap, subst, ◌∙◌, arith, nat_cmp, is_eq, is_lt, T}
use Rattle.std.specs.Prelude.{slice_get}
use Rattle.std.proofs.lemmas.Bool.Decides.{nat_tests}
use Rattle.std.specs.FinMap.{find, is_sorted}
use Rattle.std.specs.FinMap.Entries.{below_all}
use Rattle.std.proofs.lemmas.Bool.{and_parts}
use Rattle.defmt_intern.specs.declared.entry.Entry.{Entry}
use Rattle.defmt_intern.specs.Entries.{Map}
use Rattle.defmt_intern.specs.Entries as map
use Rattle.defmt_intern.proofs.EntriesLaws.{entries_sorted, get-entries}

abbrev Pairs : Type 0
Pairs = List (ℕ × Entry)

is_true : (b : Bool) → T b → b ≡ true
is_true true h = refl
is_true false h = absurd h

-- a key below all is below each
below_at : (k : ℕ) (es : Pairs) (p : ℕ) (x : ℕ × Entry) → below_all nat_cmp k es ≡ true → slice_get es p ≡ Some x → k < x.0
below_at k [] p x h at = absurd cc
below_at k (e ∷ es) zero x h at = let l = (and_parts (is_lt (nat_cmp k e.0)) (below_all nat_cmp k es) h).0 in let same : e ≡ x = cc in subst (λ (y : ℕ × Entry). k < y.0) same (grind (arith, nat_tests))
below_at k (e ∷ es) (suc p) x h at = below_at k es p x (and_parts (is_lt (nat_cmp k e.0)) (below_all nat_cmp k es) h).1 at

rises_at : (es : Pairs) (p q : ℕ) (x y : ℕ × Entry) → is_sorted nat_cmp es ≡ true → p < q → slice_get es p ≡ Some x → slice_get es q ≡ Some y → x.0 < y.0
rises_at [] p q x y h l a b = absurd cc
rises_at (e ∷ es) zero zero x y h l a b = absurd (omega arith)
rises_at (e ∷ es) zero (suc q) x y h l a b =
    let same : e ≡ x = cc in
    subst (λ (z : ℕ × Entry). z.0 < y.0) same (below_at e.0 es q y (and_parts (below_all nat_cmp e.0 es) (is_sorted nat_cmp es) h).0 b)
rises_at (e ∷ es) (suc p) zero x y h l a b = absurd (omega arith)
rises_at (e ∷ es) (suc p) (suc q) x y h l a b = rises_at es p q x y (and_parts (below_all nat_cmp e.0 es) (is_sorted nat_cmp es) h).1 (omega arith) a b

found_at : (es : Pairs) (p : ℕ) (x : ℕ × Entry) → is_sorted nat_cmp es ≡ true → slice_get es p ≡ Some x → find nat_cmp x.0 es ≡ Some x.1
found_at [] p x h at = absurd cc
found_at (e ∷ es) zero x h at =
    let same : e ≡ x = cc in
    let t : is_eq (nat_cmp e.0 e.0) ≡ true = grind (arith, nat_tests) in
    let here : find nat_cmp e.0 (e ∷ es) ≡ Some e.1 = rw t refl in
    subst (λ (y : ℕ × Entry). find nat_cmp y.0 (e ∷ es) ≡ Some y.1) same here
found_at (e ∷ es) (suc p) x h at =
    let k = and_parts (below_all nat_cmp e.0 es) (is_sorted nat_cmp es) h in
    let less : e.0 < x.0 = below_at e.0 es p x k.0 at in
    let f : is_eq (nat_cmp x.0 e.0) ≡ false = grind (arith, nat_tests) in
    rw f (found_at es p x k.1 at)

placed : (e : ℕ × Entry) (es : Pairs) (i : ℕ) (v : Entry) (b : Bool) → is_eq (nat_cmp i e.0) ≡ b → ((find nat_cmp i es ≡ Some v) → (p : ℕ) × (slice_get es p ≡ Some (i, v))) → cond b (Some e.1) (find nat_cmp i es) ≡ Some v → (p : ℕ) × (slice_get (e ∷ es) p ≡ Some (i, v))
placed e es i v true t later h =
    let key : i ≡ e.0 = grind (arith, nat_tests) in
    let value : e.1 ≡ v = cc in
    (0, ap (λ (k : ℕ). Some (k, e.1)) (sym key) ∙ ap (λ (w : Entry). Some (i, w)) value)
placed e es i v false t later h = let l = later h in (suc l.0, l.1)

place_of : (es : Pairs) (i : ℕ) (v : Entry) → find nat_cmp i es ≡ Some v → (p : ℕ) × (slice_get es p ≡ Some (i, v))
place_of [] i v h = absurd cc
place_of (e ∷ es) i v h = placed e es i v (is_eq (nat_cmp i e.0)) refl (place_of es i v) h

-- ---- of a map

pub sorted : (table : Map) → is_sorted nat_cmp (map.entries table) ≡ true
sorted table = is_true (is_sorted nat_cmp (map.entries table)) (entries_sorted table)

pub entry_rises : (table : Map) (p q : ℕ) (x y : ℕ × Entry) → p < q → slice_get (map.entries table) p ≡ Some x → slice_get (map.entries table) q ≡ Some y → x.0 < y.0
entry_rises table p q x y l a b = rises_at (map.entries table) p q x y (sorted table) l a b

pub entry_there : (table : Map) (p : ℕ) (x : ℕ × Entry) → slice_get (map.entries table) p ≡ Some x → map.get table x.0 ≡ Some x.1
entry_there table p x at = get-entries table x.0 ∙ found_at (map.entries table) p x (sorted table) at

pub entry_place : (table : Map) (i : ℕ) (v : Entry) → map.get table i ≡ Some v → (p : ℕ) × (slice_get (map.entries table) p ≡ Some (i, v))
entry_place table i v h = place_of (map.entries table) i v (sym (get-entries table i) ∙ h)
