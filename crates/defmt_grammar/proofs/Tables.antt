-- A table of positions with one use more.
use Rattle.std.proofs.Common.{◌≡◌, ◌≢◌, ◌<◌, ◌≤◌, ◌+◌, ◌^◌, ℕ, zero, suc, Bool, true, false, cond, eqb, List, [], ◌∷◌, ◌++◌, length, get_or, take, set, Option, Some, None, refl, sym, ap, subst, ◌∙◌, arith, ◌⊎◌, inl, inr}
use Rattle.std.specs.Prelude.{slice_get, replicate}
use Rattle.std.proofs.lemmas.Bool.{cases_lt}
use Rattle.std.proofs.lemmas.List.{take_more}
use Rattle.std.proofs.lemmas.Option.{same_Some, slice_get_within, slice_get-get_or}
use Rattle.defmt_grammar.specs.declared.kind.Kind.{Kind}
use Rattle.defmt_grammar.specs.declared.param.Param.{Param}
use Rattle.defmt_grammar.specs.declared.piece.Use.{Use}
use Rattle.defmt_grammar.specs.declared.positions.Held.{Held}
use Rattle.defmt_grammar.specs.Grammar.{IsBits, Clash, FirstClash}
use Rattle.defmt_grammar.specs.Slots.{kinds_at}
use Rattle.defmt_grammar.specs.Positions.{Fits, HeldFit, CountFits, IsTableOf, AllFit, KindFits, Apart, EntryIs, Holds, HoldsMore, ClashesWith, IsTable, params_in}
use Rattle.defmt_grammar.proofs.KindsAt.{kinds_at-here, kinds_at-other, Among, first_among, use_among, among_use, get_take, got_taken}
use Rattle.defmt_grammar.proofs.Joins.{joint_fits, holds_more, joined_near, apart_from}

-- ---- lists

get_set_same : {X : Type 0} (xs : List X) (i : ℕ) (x : X) → i < length xs → slice_get (set xs i x) i ≡ Some x
get_set_same [] i x h = absurd (omega arith)
get_set_same (y ∷ xs) zero x h = refl
get_set_same (y ∷ xs) (suc i) x h = get_set_same xs i x (omega arith)

get_set_other : {X : Type 0} (xs : List X) (i j : ℕ) (x : X) → i ≢ j → slice_get (set xs i x) j ≡ slice_get xs j
get_set_other [] i j x h = refl
get_set_other (y ∷ xs) zero zero x h = absurd (h refl)
get_set_other (y ∷ xs) zero (suc j) x h = refl
get_set_other (y ∷ xs) (suc i) zero x h = refl
get_set_other (y ∷ xs) (suc i) (suc j) x h = get_set_other xs i j x (λ e. h (ap suc e))

same_or_not : (i j : ℕ) → (i ≡ j) ⊎ (i ≢ j)
same_or_not i j = elim (cases_lt i j) [
  | inl lt ↦ inr (λ e. omega arith)
  | inr le ↦ elim (cases_lt j i) [
    | inl lt ↦ inr (λ e. omega arith)
    | inr ge ↦ inl (omega arith)
  ]
]

map-push : (us : List Use) (u : Use) → params_in (us ++ u ∷ []) ≡ params_in us ++ u.param ∷ []
map-push [] u = refl
map-push (x ∷ us) u = ap (λ (ps : List Param). x.param ∷ ps) (map-push us u)

params_more : (us : List Use) (i : ℕ) (d : Use) → i < length us → params_in (take (i + 1) us) ≡ params_in (take i us) ++ (get_or us i d).param ∷ []
params_more us i d h = ap params_in (take_more us i d h) ∙ map-push (take i us) (get_or us i d)

-- ---- the empty table

none_there : (n position : ℕ) (entry : Option Held) → slice_get (replicate n (let none : Option Held = None in none)) position ≡ Some entry → entry ≡ None
none_there zero position entry e = absurd cc
none_there (suc n) zero entry e = sym (same_Some None entry e)
none_there (suc n) (suc position) entry e = none_there n position entry e

pub empty_table : (n : ℕ) → IsTable (replicate n None) []
unfolding kinds_at
empty_table n position entry e = subst (λ (x : Option Held). EntryIs x []) (sym (none_there n position entry e)) refl

-- ---- one use more

pub table_more : (table : List (Option Held)) (ps : List Param) (p : Param) (entry : Option Held) (more : Held) → IsTable table ps → slice_get table p.position ≡ Some entry → KindFits p.kind → HoldsMore entry p.kind more → IsTable (set table p.position (Some more)) (ps ++ p ∷ [])
table_more table ps p entry more t e f m position x g = elim (same_or_not p.position position) [
  | inl same ↦ at_same same
  | inr other ↦ subst (λ (ks : List Kind). EntryIs x ks) (sym (kinds_at-other position ps p other)) (t position x (sym (get_set_other table p.position position (Some more) other) ∙ g))
]
  where
    at_same : p.position ≡ position → EntryIs x (kinds_at position (ps ++ p ∷ []))
    at_same same =
        let here : Some more ≡ x = same_Some (Some more) x (sym (get_set_same table p.position (Some more) (slice_get_within table p.position entry e)) ∙ ap (slice_get (set table p.position (Some more))) same ∙ g) in
        let h : Holds more (kinds_at p.position ps ++ p.kind ∷ []) = holds_more entry p.kind more (kinds_at p.position ps) (t p.position entry e) f m in
        let k : kinds_at p.position ps ++ p.kind ∷ [] ≡ kinds_at position (ps ++ p ∷ []) = ap (λ (n : ℕ). kinds_at n ps ++ p.kind ∷ []) same ∙ sym (kinds_at-here position ps p same) in
        subst (λ (y : Option Held). EntryIs y (kinds_at position (ps ++ p ∷ []))) here (subst (λ (ks : List Kind). Holds more ks) k h)

-- ---- clashes

clash_apart : (u v : Use) → Clash v u → Apart v.param.kind u.param.kind
clash_apart u v c = (c.kind, c.no_bits)

-- a use whose kind goes together with the earlier ones
pub no_clash_here : (table : List (Option Held)) (us : List Use) (i : ℕ) (u : Use) (entry : Option Held) (more : Held) → IsTable table (params_in (take i us)) → slice_get table u.param.position ≡ Some entry → HoldsMore entry u.param.kind more → (j : ℕ) (v : Use) → j < i → slice_get us j ≡ Some v → Clash v u → ⊥
no_clash_here table us i u entry more t e m j v lt g c =
    near entry (t u.param.position entry e) m (use_among u.param.position (take i us) j v (get_take i us j lt ∙ g) c.position)
  where
    near : (entry : Option Held) → EntryIs entry (kinds_at u.param.position (params_in (take i us))) → HoldsMore entry u.param.kind more → Among v.param.kind (kinds_at u.param.position (params_in (take i us))) → ⊥
    near None h m a = let none : Among v.param.kind [] = subst (Among v.param.kind) h a in none
    near (Some held) h m a = joined_near held.kind u.param.kind more.kind v.param.kind (kinds_at u.param.position (params_in (take i us))) m.0 h.kind a (clash_apart u v c)

pub record ClashesBefore (us : List Use) (i : ℕ) (u : Use) : Type 0 where
  pub index : ℕ
  pub use_there : Use
  pub before : index < i
  pub there : slice_get us index ≡ Some use_there
  pub clash : Clash use_there u

-- a use whose kind doesn't
pub clash_here : (table : List (Option Held)) (us : List Use) (i : ℕ) (u : Use) (entry : Option Held) → IsTable table (params_in (take i us)) → slice_get table u.param.position ≡ Some entry → ClashesWith entry u.param.kind → ClashesBefore us i u
clash_here table us i u None t e h = absurd h
clash_here table us i u (Some held) t e h =
    let holds = t u.param.position (Some held) e in
    let some = first_among (kinds_at u.param.position (params_in (take i us))) holds.some in
    let there = among_use u.param.position (take i us) some.0 some.1 in
    let apart = apart_from held.kind u.param.kind some.0 (kinds_at u.param.position (params_in (take i us))) h holds.kind some.1 in
    let got = got_taken i us there.index there.use_there there.there in
    record {
      index = there.index;
      use_there = there.use_there;
      before = got.0;
      there = got.1;
      clash = record {
        position = there.position_is;
        kind = λ q. apart.0 (sym there.kind_is ∙ q);
        no_bits = subst (λ (k : Kind). IsBits k → IsBits u.param.kind → ⊥) (sym there.kind_is) apart.1;
      };
    }

pub first_clash : (us : List Use) (i : ℕ) (u : Use) → slice_get us i ≡ Some u → ((k j : ℕ) (w v : Use) → k < i → j < k → slice_get us k ≡ Some w → slice_get us j ≡ Some v → Clash v w → ⊥) → ClashesBefore us i u → FirstClash us u.at
first_clash us i u e n c = record { index = i; use_there = u; there = e; earlier = c.index; use_earlier = c.use_there; earlier_there = c.there; before = c.before; clash = c.clash; first = n; place = refl }

pub no_clash_more : (us : List Use) (i : ℕ) (u : Use) → slice_get us i ≡ Some u → ((k j : ℕ) (w v : Use) → k < i → j < k → slice_get us k ≡ Some w → slice_get us j ≡ Some v → Clash v w → ⊥) → ((j : ℕ) (v : Use) → j < i → slice_get us j ≡ Some v → Clash v u → ⊥) → (k j : ℕ) (w v : Use) → k < i + 1 → j < k → slice_get us k ≡ Some w → slice_get us j ≡ Some v → Clash v w → ⊥
no_clash_more us i u e n here k j w v lt less g h c = elim (cases_lt k i) [
  | inl before ↦ n k j w v before less g h c
  | inr le ↦
      let same : k ≡ i = omega arith in
      let use_is : w ≡ u = same_Some w u (sym g ∙ ap (slice_get us) same ∙ e) in
      here j v (omega arith) h (subst (Clash v) use_is c)
]

pub fits_there : (us : List Use) (i : ℕ) (u : Use) → AllFit us → slice_get us i ≡ Some u → Fits u.param
fits_there [] i u h e = absurd cc
fits_there (x ∷ us) zero u h e = subst (λ (v : Use). Fits v.param) (same_Some x u e) h.0
fits_there (x ∷ us) (suc i) u h e = fits_there us i u h.1 e

-- ---- the steps of the loop

entry_there : (table : List (Option Held)) (position : ℕ) (entry : Option Held) → length table ≡ 16 → position ≤ 15 → slice_get table position ≡ Some (get_or table position entry)
entry_there table position entry size few = slice_get-get_or table position entry (omega arith)

use_there : (us : List Use) (i : ℕ) (d : Use) → i < length us → slice_get us i ≡ Some (get_or us i d)
use_there us i d h = slice_get-get_or us i d h

-- where the reader stands at a use of this position
pub record IsAt (table : List (Option Held)) (us : List Use) (i : ℕ) (u : Use) (position : ℕ) (entry : Option Held) : Type 0 where
  pub entries : IsTable table (params_in (take i us))
  pub there : slice_get us i ≡ Some u
  pub fits : Fits u.param
  pub position_is : u.param.position ≡ position
  pub entry_is : slice_get table u.param.position ≡ Some entry

pub is_at : (table : List (Option Held)) (us : List Use) (i : ℕ) (d : Use) (position : ℕ) (e : Option Held) → AllFit us → IsTable table (params_in (take i us)) → length table ≡ 16 → i < length us → position ≡ (get_or us i d).param.position → IsAt table us i (get_or us i d) position (get_or table position e)
is_at table us i d position e fit t size lt same =
    let fits = fits_there us i (get_or us i d) fit (use_there us i d lt) in
    let few = fits.few in
    record {
      entries = t;
      there = use_there us i d lt;
      fits = fits;
      position_is = sym same;
      entry_is = ap (slice_get table) (sym same) ∙ entry_there table position e size (omega arith);
    }

pub in_table : (table : List (Option Held)) (us : List Use) (i : ℕ) (u : Use) (position : ℕ) (entry : Option Held) → IsAt table us i u position entry → position ≤ 15
in_table table us i u position entry a = let few = a.fits.few in let same = a.position_is in omega (arith, few, same)

length-kinds_at : (position : ℕ) (ps : List Param) → length (kinds_at position ps) ≤ length ps
unfolding kinds_at
length-kinds_at position [] = omega arith
length-kinds_at position (p ∷ ps) = shorter (eqb p.position position) p.kind (kinds_at position ps) (length-kinds_at position ps)
  where
    shorter : (b : Bool) (k : Kind) (ks : List Kind) → length ks ≤ length ps → length (cond b (k ∷ ks) ks) ≤ length (p ∷ ps)
    shorter true k ks h = omega arith
    shorter false k ks h = omega arith

length-params_in : (us : List Use) → length (params_in us) ≡ length us
length-params_in [] = refl
length-params_in (u ∷ us) = ap suc (length-params_in us)

length-taken : {X : Type 0} (n : ℕ) (xs : List X) → length (take n xs) ≤ n
length-taken zero xs = omega arith
length-taken (suc n) [] = omega arith
length-taken (suc n) (x ∷ xs) = omega (arith, length-taken n xs)

pub count_fits : (table : List (Option Held)) (us : List Use) (i : ℕ) (u : Use) (position : ℕ) (entry : Option Held) → IsAt table us i u position entry → i < length us → length us < 2 ^ 64 → CountFits entry
count_fits table us i u position None a lt small = tt
count_fits table us i u position (Some held) a lt small =
    let h = a.entries u.param.position (Some held) a.entry_is in
    let uses = h.uses in
    omega (arith, uses, length-kinds_at u.param.position (params_in (take i us)), length-params_in (take i us), length-taken i us)

pub table_step : (table : List (Option Held)) (us : List Use) (i : ℕ) (d : Use) (position : ℕ) (entry : Option Held) (more : Held) → IsAt table us i (get_or us i d) position entry → i < length us → HoldsMore entry (get_or us i d).param.kind more → IsTable (set table position (Some more)) (params_in (take (i + 1) us))
table_step table us i d position entry more a lt m =
    let one = table_more table (params_in (take i us)) (get_or us i d).param entry more a.entries a.entry_is a.fits.kind m in
    subst (λ (ps : List Param). IsTable (set table position (Some more)) ps) (sym (params_more us i d lt)) (subst (λ (n : ℕ). IsTable (set table n (Some more)) (params_in (take i us) ++ (get_or us i d).param ∷ [])) a.position_is one)

abbrev pub NoClashBefore : List Use → ℕ → Type 0
NoClashBefore us limit = (k j : ℕ) (w v : Use) → k < limit → j < k → slice_get us k ≡ Some w → slice_get us j ≡ Some v → Clash v w → ⊥

pub no_clash_step : (table : List (Option Held)) (us : List Use) (i : ℕ) (u : Use) (position : ℕ) (entry : Option Held) (more : Held) → IsAt table us i u position entry → HoldsMore entry u.param.kind more → NoClashBefore us i → NoClashBefore us (i + 1)
no_clash_step table us i u position entry more a m n = no_clash_more us i u a.there n (no_clash_here table us i u entry more a.entries a.entry_is m)

pub clash_step : (table : List (Option Held)) (us : List Use) (i : ℕ) (u : Use) (position : ℕ) (entry : Option Held) → IsAt table us i u position entry → ClashesWith entry u.param.kind → NoClashBefore us i → FirstClash us u.at
clash_step table us i u position entry a h n = first_clash us i u a.there n (clash_here table us i u entry a.entries a.entry_is h)

pub table_done : (table : List (Option Held)) (us : List Use) (i : ℕ) → i ≡ length us → IsTable table (params_in (take i us)) → length table ≡ 16 → NoClashBefore us i → IsTableOf table us
table_done table us i e t size n = record {
  entries = subst (λ (vs : List Use). IsTable table (params_in vs)) (ap (λ (k : ℕ). take k us) e ∙ all_taken us) t;
  size = size;
  no_clash = λ k j w v less g h c. n k j w v (let lt = slice_get_within us k w g in omega arith) less g h c;
}
  where
    all_taken : (xs : List Use) → take (length xs) xs ≡ xs
    all_taken [] = refl
    all_taken (x ∷ xs) = ap (λ (ys : List Use). x ∷ ys) (all_taken xs)

pub held_fit : (table : List (Option Held)) (us : List Use) → IsTableOf table us → HeldFit table
held_fit table us t position held e = joint_fits held.kind (kinds_at position (params_in us)) (t.entries position (Some held) e).kind
