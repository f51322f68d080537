-- The map of names.
use Rattle.std.proofs.Common.{◌≡◌, ◌==◌, ◌&&◌, ℕ, Bool, true, false, cond, List, [], ◌∷◌, Option, Some, None, IfSome, is_eq, is_lt, refl, sym, ap, ◌∙◌, ◌⊎◌, nat_cmp, Ordering, Less, Equal, Greater, T, inl, inr, All, String, string_bytes, arith}
use Rattle.std.specs.declared.alloc.Global.{Global}
use Rattle.std.specs.Cmp.{eq_by_cmp_equiv, tied_itself}
use Rattle.std.specs.Cmp.Lexicographic.{slice_cmp, bytes_decides, nat_list_cmp_total}
use Rattle.std.specs.FinMap.{entries_sorted, get-entries, get-insert, get-from_entries, same_map, find, is_sorted, nat_cmp-IsAntisymmetric, slice_cmp-IsAntisymmetric}
use Rattle.std.specs.FinMap.Entries.{below_all}
use Rattle.std.specs.FinMap as map
use Rattle.std.specs.Map.{lookup}
use Rattle.std.specs.Ordering.{ordering_reverse}
use Rattle.std.specs.Str.{bytes_eq}
use Rattle.std.proofs.lemmas.Bool.{and_parts, cases_Bool, cond-true, cond-false, eqb-true}
use Rattle.std.proofs.lemmas.Bool.Decides.{nat_tests}
use Rattle.std.proofs.lemmas.List.Elements.{All-head, All-tail, All-weaker}
use Rattle.std.proofs.lemmas.Map.Text.{is_eq-slice_cmp}
use Rattle.std.proofs.lemmas.Option.{none-some, same_Some}
use Rattle.defmt_spelling.specs.declared.near.Near.{Near}
use Rattle.defmt_spelling.specs.Names.{NameMap, AreNear, IsNear, Kept, pairs, names_of, first_named, name_of, comes_before}

abbrev Pairs : Type 0
Pairs = List (List ℕ × ℕ)

abbrev order : List ℕ → List ℕ → Ordering
order x y = slice_cmp nat_cmp x y

-- what is found at the bytes of a name
abbrev pub at : List ℕ → Kept → Option ℕ
at q es = lookup (λ s. bytes_eq q (string_bytes s)) es

find_pairs : (q : List ℕ) (es : Kept) → find (slice_cmp nat_cmp) q (pairs es) ≡ at q es
find_pairs q [] = refl
find_pairs q (e ∷ es) =
    ap (λ (b : Bool). cond {A = Option ℕ} b (Some e.1) (find (slice_cmp nat_cmp) q (pairs es))) (is_eq-slice_cmp q (string_bytes e.0))
    ∙ ap (cond {A = Option ℕ} (bytes_eq q (string_bytes e.0)) (Some e.1)) (find_pairs q es)

-- that is what the map has
got : (es : Kept) (q : List ℕ) → map.get (names_of es) q ≡ at q es
got es q = get-from_entries nat_list_cmp_total (pairs es) q ∙ find_pairs q es

pub got_is : (es : Kept) (names : NameMap) (q : List ℕ) (o : Option ℕ) → names_of es ≡ names → o ≡ at q es → o ≡ map.get names q
got_is es names q o same e = e ∙ sym (got es q) ∙ ap (λ (m : NameMap). map.get m q) same

pub turned : (q k : List ℕ) → is_eq (slice_cmp nat_cmp k q) ≡ is_eq (slice_cmp nat_cmp q k)
turned q k = (eq_by_cmp_equiv nat_list_cmp_total).symm k q

pub inserted : (old new : Kept) (names : NameMap) (k : List ℕ) (v : ℕ) → names_of old ≡ names → ((q : List ℕ) → at q new ≡ cond {A = Option ℕ} (bytes_eq k q) (Some v) (at q old)) → names_of new ≡ map.insert names k v
inserted old new names k v same h = same_map nat_list_cmp_total (slice_cmp-IsAntisymmetric nat_cmp-IsAntisymmetric) _ _
    (λ q. got new q ∙ h q ∙ ap (λ (b : Bool). cond {A = Option ℕ} b (Some v) (at q old)) (sym (is_eq-slice_cmp k q)) ∙ ap (λ (b : Bool). cond {A = Option ℕ} b (Some v) (at q old)) (turned q k) ∙ ap (cond {A = Option ℕ} (is_eq (slice_cmp nat_cmp q k)) (Some v)) (sym (got old q) ∙ ap (λ (m : NameMap). map.get m q) same)
    ∙ sym (get-insert nat_list_cmp_total names k v q))

-- ---- the least name of an index

same_name : (x y : List ℕ) → is_eq (order x y) ≡ true → x ≡ y
same_name x y e = (bytes_decides x y).0 (sym (is_eq-slice_cmp x y) ∙ e)

itself : (x : List ℕ) → order x x ≡ Equal
itself x = tied_itself nat_list_cmp_total x

less_is : (o : Ordering) → is_lt o ≡ true → o ≡ Less
less_is Less e = refl
less_is Equal e = absurd (cc)
less_is Greater e = absurd (cc)

not_less : (o : Ordering) → is_lt o ≡ false → o ≡ Less → ⊥
not_less o f e = let t : is_lt o ≡ true = ap is_lt e in cc

not_itself : (x y : List ℕ) → x ≡ y → order y x ≡ Less → ⊥
not_itself x y e l =
    let s : order y x ≡ Equal = ap (λ (z : List ℕ). order z x) (sym e) ∙ itself x in
    cc

-- the index has the name
abbrev Named : Pairs → ℕ → List ℕ → Type 0
Named [] index name = ⊥
Named (p ∷ ps) index name = ((p.0 ≡ name) × (p.1 ≡ index)) ⊎ Named ps index name

-- the name isn't less than this one
abbrev AtMost : Option (List ℕ) → List ℕ → Type 0
AtMost None name = ⊥
AtMost (Some least) name = order name least ≡ Less → ⊥

record IsLeast (P : List ℕ → Type 0) (o : Option (List ℕ)) : Type 0 where
  pub among : IfSome o P
  pub least : (name : List ℕ) → P name → AtMost o name

among_too : (P Q : List ℕ → Type 0) (o : Option (List ℕ)) → ((name : List ℕ) → P name → Q name) → IfSome o P → IfSome o Q
among_too P Q None f h = tt
among_too P Q (Some name) f h = f name h

alike : (P Q : List ℕ → Type 0) (o : Option (List ℕ)) → ((name : List ℕ) → P name → Q name) → ((name : List ℕ) → Q name → P name) → IsLeast P o → IsLeast Q o
alike P Q o f g h = record { among = among_too P Q o f h.among; least = λ name q. h.least name (g name q) }

-- one name more
abbrev Or : (List ℕ → Type 0) → List ℕ → List ℕ → Type 0
Or P x name = P name ⊎ (x ≡ name)

lesser : (P : List ℕ → Type 0) (x least : List ℕ) (b : Bool) → is_lt (order x least) ≡ b → IsLeast P (Some least) → IsLeast (Or P x) (cond b (Some x) (Some least))
lesser P x least true e h = record {
  among = inr refl;
  least = λ name p. elim p [
    | inl q ↦ λ l. h.least name q (nat_list_cmp_total.trans name x least l (less_is (order x least) e))
    | inr s ↦ not_itself x name s
  ];
}
lesser P x least false e h = record {
  among = inl h.among;
  least = λ name p. elim p [
    | inl q ↦ h.least name q
    | inr s ↦ λ l. not_less (order x least) e (ap (λ (z : List ℕ). order z least) s ∙ l)
  ];
}

one_more : (P : List ℕ → Type 0) (x : List ℕ) (o : Option (List ℕ)) → IsLeast P o → IsLeast (Or P x) (cond (comes_before x o) (Some x) o)
one_more P x None h = record {
  among = inr refl;
  least = λ name p. elim p [ inl q ↦ absurd (h.least name q) | inr s ↦ not_itself x name s ];
}
one_more P x (Some least) h = lesser P x least (is_lt (order x least)) refl h

-- the least name of the index behind these, and of those before them
abbrev pub least_named : Pairs → ℕ → Option (List ℕ) → Option (List ℕ)
least_named [] index least = least
least_named (p ∷ ps) index least = least_named ps index (cond (p.1 == index && comes_before p.0 least) (Some p.0) least)

abbrev Here : List ℕ × ℕ → ℕ → List ℕ → Type 0
Here p index name = (p.0 ≡ name) × (p.1 ≡ index)

passed : (P : List ℕ → Type 0) (p : List ℕ × ℕ) (index : ℕ) (o : Option (List ℕ)) (b : Bool) → (p.1 == index) ≡ b → IsLeast P o → IsLeast (λ name. P name ⊎ Here p index name) (cond (b && comes_before p.0 o) (Some p.0) o)
passed P p index o true e h =
    let same : p.1 ≡ index = eqb-true p.1 index e in
    alike (Or P p.0) (λ name. P name ⊎ Here p index name) (cond (comes_before p.0 o) (Some p.0) o)
    (λ name q. elim q [ inl x ↦ inl x | inr s ↦ inr (s, same) ]) (λ name q. elim q [ inl x ↦ inl x | inr s ↦ inr s.0 ])
    (one_more P p.0 o h)
passed P p index o false e h =
    alike P (λ name. P name ⊎ Here p index name) o (λ name q. inl q)
    (λ name q. elim q [ inl x ↦ x | inr s ↦ absurd (differs p.1 index e s.1) ]) h
  where
    differs : (x y : ℕ) → (x == y) ≡ false → x ≡ y → ⊥
    differs x y f s = grind (arith, nat_tests)

folded : (ps : Pairs) (P : List ℕ → Type 0) (index : ℕ) (o : Option (List ℕ)) → IsLeast P o → IsLeast (λ name. P name ⊎ Named ps index name) (least_named ps index o)
folded [] P index o h = alike P (λ name. P name ⊎ Named [] index name) o (λ name q. inl q) (λ name q. elim q [ inl x ↦ x | inr n ↦ absurd n ]) h
folded (p ∷ ps) P index o h =
    alike (λ name. (P name ⊎ Here p index name) ⊎ Named ps index name) (λ name. P name ⊎ Named (p ∷ ps) index name) (least_named (p ∷ ps) index o)
    (λ name q. elim q [ inl x ↦ elim x [ inl y ↦ inl y | inr y ↦ inr (inl y) ] | inr n ↦ inr (inr n) ])
    (λ name q. elim q [ inl x ↦ inl (inl x) | inr n ↦ elim n [ inl y ↦ inl (inr y) | inr y ↦ inr y ] ])
    (folded ps (λ name. P name ⊎ Here p index name) index (cond (p.1 == index && comes_before p.0 o) (Some p.0) o) (passed P p index o (p.1 == index) refl h))

abbrev Nowhere : List ℕ → Type 0
Nowhere name = ⊥

found_least : (ps : Pairs) (index : ℕ) → IsLeast (Named ps index) (least_named ps index None)
found_least ps index =
    alike (λ name. Nowhere name ⊎ Named ps index name) (Named ps index) (least_named ps index None)
    (λ name q. elim q [ inl x ↦ absurd x | inr n ↦ n ]) (λ name n. inr n)
    (folded ps Nowhere index None (record { among = tt; least = λ name p. absurd p }))

-- ---- in order

below_named : (x : List ℕ) (es : Pairs) (index : ℕ) (name : List ℕ) → below_all (slice_cmp nat_cmp) x es ≡ true → Named es index name → order x name ≡ Less
below_named x [] index name b n = absurd n
below_named x (e ∷ es) index name b n =
    let parts = and_parts (is_lt (order x e.0)) (below_all (slice_cmp nat_cmp) x es) b in
    elim n [
      | inl h ↦ ap (order x) (sym h.0) ∙ less_is (order x e.0) parts.0
      | inr m ↦ below_named x es index name parts.1 m
    ]

first_by : (e : List ℕ × ℕ) (es : Pairs) (index : ℕ) (o : Option (List ℕ)) → below_all (slice_cmp nat_cmp) e.0 es ≡ true → e.1 ≡ index → IsLeast (Named (e ∷ es) index) o → Some e.0 ≡ o
first_by e es index None b s h = absurd (h.least e.0 (inl (refl, s)))
first_by e es index (Some name) b s h = elim h.among [
  | inl x ↦ ap Some x.0
  | inr n ↦ absurd (h.least e.0 (inl (refl, s)) (below_named e.0 es index name b n))
]

-- the first of names in order is the least
first_is : (es : Pairs) (index : ℕ) (o : Option (List ℕ)) → is_sorted (slice_cmp nat_cmp) es ≡ true → IsLeast (Named es index) o → first_named es index ≡ o
first_is [] index None s h = refl
first_is [] index (Some name) s h = absurd h.among
first_is (e ∷ es) index o s h =
    let parts = and_parts (below_all (slice_cmp nat_cmp) e.0 es) (is_sorted (slice_cmp nat_cmp) es) s in
    elim (cases_Bool (e.1 == index)) [
      | inl y ↦ cond-true (e.1 == index) (Some e.0) (first_named es index) y ∙ first_by e es index o parts.0 (eqb-true e.1 index y) h
      | inr n ↦
          cond-false (e.1 == index) (Some e.0) (first_named es index) n
          ∙ first_is es index o parts.1 (record {
            among = among_too (Named (e ∷ es) index) (Named es index) o (λ name q. elim q [ inl x ↦ absurd (unlike e.1 index n x.1) | inr m ↦ m ]) h.among;
            least = λ name p. h.least name (inr p);
          })
    ]
  where
    unlike : (x y : ℕ) → (x == y) ≡ false → x ≡ y → ⊥
    unlike x y f e = grind (arith, nat_tests)

-- ---- what has a name

named_of : (es : Pairs) (q : List ℕ) (index : ℕ) → find (slice_cmp nat_cmp) q es ≡ Some index → Named es index q
named_of [] q index h = absurd (cc)
named_of (e ∷ es) q index h = elim (cases_Bool (is_eq (order q e.0))) [
  | inl y ↦ inl (sym (same_name q e.0 y), same_Some e.1 index (sym (cond-true (is_eq (order q e.0)) (Some e.1) (find (slice_cmp nat_cmp) q es) y) ∙ h))
  | inr n ↦ inr (named_of es q index (sym (cond-false (is_eq (order q e.0)) (Some e.1) (find (slice_cmp nat_cmp) q es) n) ∙ h))
]

greater_is : (x y : List ℕ) → order x y ≡ Less → is_eq (order y x) ≡ false
greater_is x y l = ap is_eq (nat_list_cmp_total.antisymm y x ∙ ap ordering_reverse l)

named_found : (es : Pairs) (q : List ℕ) (index : ℕ) → is_sorted (slice_cmp nat_cmp) es ≡ true → Named es index q → find (slice_cmp nat_cmp) q es ≡ Some index
named_found [] q index s n = absurd n
named_found (e ∷ es) q index s n =
    let parts = and_parts (below_all (slice_cmp nat_cmp) e.0 es) (is_sorted (slice_cmp nat_cmp) es) s in
    elim n [
      | inl h ↦
          let t : is_eq (order q e.0) ≡ true = ap is_eq (ap (order q) h.0 ∙ itself q) in
          cond-true (is_eq (order q e.0)) (Some e.1) (find (slice_cmp nat_cmp) q es) t ∙ ap Some h.1
      | inr m ↦
          let f : is_eq (order q e.0) ≡ false = greater_is e.0 q (below_named e.0 es index q parts.0 m) in
          cond-false (is_eq (order q e.0)) (Some e.1) (find (slice_cmp nat_cmp) q es) f ∙ named_found es q index parts.1 m
    ]

-- the entry is found at its name
abbrev Finds : Kept → String Global × ℕ → Type 0
Finds all e = at (string_bytes e.0) all ≡ Some e.1

named_there : (all es : Kept) (index : ℕ) (name : List ℕ) → All (Finds all) es → Named (pairs es) index name → at name all ≡ Some index
named_there all [] index name h n = absurd n
named_there all (e ∷ es) index name h n = elim n [
  | inl x ↦ ap (λ (q : List ℕ). at q all) (sym x.0) ∙ All-head (Finds all) e es h ∙ ap Some x.1
  | inr m ↦ named_there all es index name (All-tail (Finds all) e es h) m
]

of_T : (b : Bool) → T b → b ≡ true
of_T true t = refl
of_T false t = absurd t

pub least_is : (es : Kept) (names : NameMap) (index : ℕ) → names_of es ≡ names → All (Finds es) es → least_named (pairs es) index None ≡ name_of names index
least_is es names index same unique =
    let up : is_sorted (slice_cmp nat_cmp) (map.entries names) ≡ true = of_T _ (entries_sorted names) in
    let there : (name : List ℕ) → at name es ≡ map.get names name = λ name. got_is es names name (at name es) same refl in
    sym (first_is (map.entries names) index (least_named (pairs es) index None) up
    (alike (Named (pairs es) index) (Named (map.entries names) index) (least_named (pairs es) index None)
    (λ name n. named_of (map.entries names) name index (sym (get-entries names name) ∙ sym (there name) ∙ named_there es es index name unique n))
    (λ name n. named_of (pairs es) name index (find_pairs name es ∙ there name ∙ get-entries names name ∙ named_found (map.entries names) name index up n))
    (found_least (pairs es) index)))

-- ---- names at their places

inserted_here : (names : NameMap) (k : List ℕ) (v : ℕ) → map.get (map.insert names k v) k ≡ Some v
inserted_here names k v = get-insert nat_list_cmp_total names k v k ∙ ap (λ (o : Ordering). cond {A = Option ℕ} (is_eq o) (Some v) (map.get names k)) (itself k)

-- a new name changes none of the others
still_near : (names : NameMap) (k : List ℕ) (v : ℕ) → map.get names k ≡ None → (o : Option Near) → IsNear names o → IsNear (map.insert names k v) o
still_near names k v absent None h = tt
still_near names k v absent (Some n) h =
    let name : List ℕ = string_bytes n.name in
    elim (cases_Bool (is_eq (order name k))) [
      | inl e ↦ absurd (none-some n.index (sym absent ∙ ap (map.get names) (sym (same_name name k e)) ∙ h))
      | inr e ↦ get-insert nat_list_cmp_total names k v name ∙ ap (λ (b : Bool). cond {A = Option ℕ} b (Some v) (map.get names name)) e ∙ h
    ]

-- a new name is kept beside the others
pub near_put : (names : NameMap) (k : List ℕ) (v : ℕ) (one : Near) (old new : List (Option Near)) → string_bytes one.name ≡ k → one.index ≡ v → map.get names k ≡ None → AreNear names old
    → ((m : NameMap) → IsNear m (Some one) → AreNear m old → AreNear m new) → AreNear (map.insert names k v) new
near_put names k v one old new e i absent h keeps =
    let here : map.get (map.insert names k v) (string_bytes one.name) ≡ Some one.index = ap (map.get (map.insert names k v)) e ∙ inserted_here names k v ∙ ap (λ (n : ℕ). Some n) (sym i) in
    keeps (map.insert names k v) here (All-weaker (IsNear names) (IsNear (map.insert names k v)) (still_near names k v absent) old h)
