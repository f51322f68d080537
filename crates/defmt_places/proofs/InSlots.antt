-- What is kept in the slots of places.
use Rattle.std.proofs.Common.{◌≡◌, ◌<◌, ◌+◌, ℕ, zero, suc, true, false, cond, List, [], ◌∷◌, ◌++◌, length, get_or, set, Option, Some, None, is_eq, nat_cmp, refl, sym, ap, ◌∙◌, inl, inr, arith}
use Rattle.std.specs.FinMap.{nat_cmp-IsAntisymmetric, get-empty, get-insert, get-from_entries, same_map, find}
use Rattle.std.specs.FinMap as map
use Rattle.std.proofs.lemmas.Cmp.{nat_cmp_total, eq_by_cmp_equiv}
use Rattle.std.proofs.lemmas.Bool.{cases_eq}
use Rattle.std.proofs.lemmas.Bool.Decides.{nat_tests}
use Rattle.std.proofs.lemmas.List.{get_or-set_same, get_or-set_other}
use Rattle.defmt_places.specs.Places.{Map}
use Rattle.defmt_places.specs.Slots.{listed, map_of}

abbrev Slots : Type 0
Slots = List (Option (List ℕ))

-- ---- looking up

-- no index below the first is listed
below : (q index : ℕ) (slots : Slots) → q < index → find nat_cmp q (listed index slots) ≡ None
below q index [] l = refl
below q index (None ∷ rest) l = below q (index + 1) rest (omega arith)
below q index (Some place ∷ rest) l =
    let f : is_eq (nat_cmp q index) ≡ false = grind (arith, nat_tests) in
    rw f (below q (index + 1) rest (omega arith))

found : (q index i : ℕ) (slots : Slots) → q ≡ index + i → find nat_cmp q (listed index slots) ≡ get_or slots i None
found q index i [] e = refl
found q index zero (None ∷ rest) e = below q (index + 1) rest (omega arith)
found q index zero (Some place ∷ rest) e =
    let t : is_eq (nat_cmp q index) ≡ true = grind (arith, nat_tests) in
    rw t refl
found q index (suc i) (None ∷ rest) e = found q (index + 1) i rest (omega arith)
found q index (suc i) (Some place ∷ rest) e =
    let f : is_eq (nat_cmp q index) ≡ false = grind (arith, nat_tests) in
    rw f (found q (index + 1) i rest (omega arith))

-- the map has what is in the slot of an index
in_slot : (slots : Slots) (i : ℕ) → map.get (map_of slots) i ≡ get_or slots i None
in_slot slots i = get-from_entries nat_cmp_total (listed 0 slots) i ∙ found i 0 i slots (omega arith)

pub place_is : (slots given : Slots) (places : Map) (i : ℕ) (o : Option (List ℕ)) → map_of slots ≡ places → given ≡ slots → o ≡ get_or given i None → o ≡ map.get places i
place_is slots given places i o same is e =
    e ∙ ap (λ (s : Slots). get_or s i None) is ∙ sym (in_slot slots i) ∙ ap (λ (m : Map). map.get m i) same

-- ---- one more

set_at : (slots : Slots) (k q : ℕ) (place : List ℕ) → k < length slots
    → get_or (set slots k (Some place)) q None ≡ cond {A = Option (List ℕ)} (is_eq (nat_cmp q k)) (Some place) (get_or slots q None)
set_at slots k q place l = elim (cases_eq q k) [
  | inl same ↦
      let t : is_eq (nat_cmp q k) ≡ true = grind (arith, nat_tests) in
      rw t (ap (λ (i : ℕ). get_or (set slots k (Some place)) i None) same ∙ get_or-set_same slots k (Some place) None l)
  | inr other ↦
      let f : is_eq (nat_cmp q k) ≡ false = grind (arith, nat_tests) in
      rw f (get_or-set_other slots k q (Some place) None other)
]

pub placed : (old grown : Slots) (k : ℕ) (copy place : List ℕ) → map_of grown ≡ map_of old → k < length grown → copy ≡ place
    → map_of (set grown k (Some copy)) ≡ map.insert (map_of old) k place
placed old grown k copy place same l is =
    same_map nat_cmp_total nat_cmp-IsAntisymmetric (map_of (set grown k (Some copy))) (map.insert (map_of grown) k copy) (λ q.
    in_slot (set grown k (Some copy)) q ∙ set_at grown k q copy l
    ∙ ap (cond {A = Option (List ℕ)} (is_eq (nat_cmp q k)) (Some copy)) (sym (in_slot grown q)) ∙ sym (get-insert nat_cmp_total (map_of grown) k copy q))
    ∙ ap (λ (m : Map). map.insert m k copy) same ∙ ap (map.insert (map_of old) k) is

listed_none : (index : ℕ) (slots : Slots) → listed index (slots ++ None ∷ []) ≡ listed index slots
listed_none index [] = refl
listed_none index (None ∷ rest) = listed_none (index + 1) rest
listed_none index (Some place ∷ rest) = ap (λ (es : List (ℕ × List ℕ)). (index, place) ∷ es) (listed_none (index + 1) rest)

-- an empty slot behind the others keeps nothing
pub grown : (slots : Slots) → map_of (slots ++ None ∷ []) ≡ map_of slots
grown slots = ap (λ (es : List (ℕ × List ℕ)). map.from_entries {R = nat_cmp} es) (listed_none 0 slots)

-- places with one more aren't empty
pub some_placed : (places : Map) (k : ℕ) (place : List ℕ) → map.insert places k place ≡ map.empty → ⊥
some_placed places k place e =
    let some : map.get (map.insert places k place) k ≡ Some place =
    get-insert nat_cmp_total places k place k ∙ ap (λ t. cond t (Some place) (map.get places k)) ((eq_by_cmp_equiv nat_cmp_total).refl k) in
    absurd (cc (some, ap (λ (m : Map). map.get m k) e, get-empty {X = List ℕ} nat_cmp k))
