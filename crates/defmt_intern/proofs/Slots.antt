-- What is kept in the slots of a table.
use Rattle.std.proofs.Common.{◌≡◌, ◌≤◌, ◌<◌, ◌+◌, ℕ, zero, suc, true, false, cond, T, List, [], ◌∷◌, ◌++◌, length, get_or, set, take, Box, Option, Some, None, is_eq, is_lt, nat_cmp, refl, sym, ap, subst, ◌∙◌, inl, inr, arith}
use Rattle.std.specs.Prelude.{IsSome, is_some}
use Rattle.std.specs.Cmp.{nat_cmp_total}
use Rattle.std.specs.FinMap.{nat_cmp-IsAntisymmetric, get-insert, get-from_entries, get-from_sorted, entries-from_sorted, len-entries, same_map, find, is_sorted}
use Rattle.std.specs.FinMap.Entries.{below_all}
use Rattle.std.specs.FinMap as map
use Rattle.defmt_grammar.specs.declared.language.Language.{Language}
use Rattle.std.specs.declared.alloc.Global.{Global}
use Rattle.std.proofs.lemmas.Bool.{cases_eq, cases_lt}
use Rattle.std.proofs.lemmas.Bool.Decides.{nat_tests}
use Rattle.std.proofs.lemmas.List.{get_or-set_same, get_or-set_other, get_or_past, get_or_push, length-map, length_push, map-set, map_more, map_push}
use Rattle.defmt_intern.specs.declared.entry.Entry.{Entry}
use Rattle.defmt_intern.specs.declared.kept.Kept.{Kept}
use Rattle.defmt_intern.specs.Entries as table_map
use Rattle.defmt_intern.proofs.EntriesLaws.{len-insert}
use Rattle.defmt_intern.specs.Table.{Map, Slot, entry_in, entries_in, listed, kept_in, map_of, AreReadIn, IsReadIn, IsKept, IsWhole, IsGreatestIn}

abbrev Places : Type 0
Places = List (Option Entry)

abbrev pub Held : Type 0
Held = map.FinMap nat_cmp Entry

abbrev map_at : Places → Held
map_at places = map.from_entries {R = nat_cmp} (listed 0 places)

-- ---- looking up

-- no index below the first is listed
below : (q index : ℕ) (places : Places) → q < index → find nat_cmp q (listed index places) ≡ None
below q index [] l = refl
below q index (None ∷ rest) l = below q (index + 1) rest (omega arith)
below q index (Some e ∷ rest) l =
    let f : is_eq (nat_cmp q index) ≡ false = grind (arith, nat_tests) in
    rw f (below q (index + 1) rest (omega arith))

found : (q index i : ℕ) (places : Places) → q ≡ index + i → find nat_cmp q (listed index places) ≡ get_or places i None
found q index i [] e = refl
found q index zero (None ∷ rest) e = below q (index + 1) rest (omega arith)
found q index zero (Some v ∷ rest) e =
    let t : is_eq (nat_cmp q index) ≡ true = grind (arith, nat_tests) in
    rw t refl
found q index (suc i) (None ∷ rest) e = found q (index + 1) i rest (omega arith)
found q index (suc i) (Some v ∷ rest) e =
    let f : is_eq (nat_cmp q index) ≡ false = grind (arith, nat_tests) in
    rw f (found q (index + 1) i rest (omega arith))

-- the map has what is at the place of an index
at_place : (places : Places) (i : ℕ) → map.get (map_at places) i ≡ get_or places i None
at_place places i = get-from_entries nat_cmp_total (listed 0 places) i ∙ found i 0 i places (omega arith)

pub entry_at : (language : Language) (slots given : List Slot) (table : Map) (i : ℕ) (o : Option Entry) → map_of language slots ≡ table → given ≡ slots → o ≡ get_or (entries_in given) i None → o ≡ table_map.get table i
entry_at language slots given table i o same is e =
    e ∙ ap (λ (s : List Slot). get_or (entries_in s) i None) is ∙ sym (at_place (entries_in slots) i) ∙ ap (λ (t : Map). table_map.get t i) same

-- ---- in order

above : (x index : ℕ) (places : Places) → x < index → below_all nat_cmp x (listed index places) ≡ true
above x index [] l = refl
above x index (None ∷ rest) l = above x (index + 1) rest (omega arith)
above x index (Some e ∷ rest) l =
    let t : is_lt (nat_cmp x index) ≡ true = grind (arith, nat_tests) in
    rw (t, above x (index + 1) rest (omega arith)) refl

rises : (index : ℕ) (places : Places) → is_sorted nat_cmp (listed index places) ≡ true
rises index [] = refl
rises index (None ∷ rest) = rises (index + 1) rest
rises index (Some e ∷ rest) = rw (above index (index + 1) rest (omega arith), rises (index + 1) rest) refl

listing : (places : Places) → map.entries (map_at places) ≡ listed 0 places
listing places =
    let up : T (is_sorted nat_cmp (listed 0 places)) = subst T (sym (rises 0 places)) tt in
    let one : map_at places ≡ map.from_sorted {R = nat_cmp} (listed 0 places) =
    same_map nat_cmp_total nat_cmp-IsAntisymmetric _ _ (λ q. get-from_entries nat_cmp_total (listed 0 places) q ∙ sym (get-from_sorted nat_cmp (listed 0 places) q up)) in
    ap (λ (t : Held). map.entries t) one ∙ entries-from_sorted nat_cmp (listed 0 places) up

pub entries_are : (language : Language) (slots given : List Slot) (table : Map) → map_of language slots ≡ table → given ≡ slots → listed 0 (entries_in given) ≡ table_map.entries table
entries_are language slots given table same is =
    ap (λ (s : List Slot). listed 0 (entries_in s)) is ∙ sym (listing (entries_in slots)) ∙ ap (λ (t : Map). table_map.entries t) same

few_listed : (index : ℕ) (places : Places) → length (listed index places) ≤ length places
few_listed index [] = omega arith
few_listed index (None ∷ rest) = let l = few_listed (index + 1) rest in omega arith
few_listed index (Some e ∷ rest) = let l = few_listed (index + 1) rest in omega arith

pub few_kept : (slots : List Slot) → length slots ≤ 65536 → map.len (kept_in slots) ≤ 65536
few_kept slots few =
    omega (arith, few, len-entries (kept_in slots), ap length (listing (entries_in slots)), few_listed 0 (entries_in slots), length-map slots entry_in)

-- ---- one more

set_at : (places : Places) (k q : ℕ) (v : Entry) → k < length places → get_or (set places k (Some v)) q None ≡ cond {A = Option Entry} (is_eq (nat_cmp q k)) (Some v) (get_or places q None)
set_at places k q v l = elim (cases_eq q k) [
  | inl same ↦
      let t : is_eq (nat_cmp q k) ≡ true = grind (arith, nat_tests) in
      rw t (ap (λ (i : ℕ). get_or (set places k (Some v)) i None) same ∙ get_or-set_same places k (Some v) None l)
  | inr other ↦
      let f : is_eq (nat_cmp q k) ≡ false = grind (arith, nat_tests) in
      rw f (get_or-set_other places k q (Some v) None other)
]

set_place : (places : Places) (k : ℕ) (v : Entry) → k < length places → map_at (set places k (Some v)) ≡ map.insert (map_at places) k v
set_place places k v l = same_map nat_cmp_total nat_cmp-IsAntisymmetric _ _
    (λ q. at_place (set places k (Some v)) q ∙ set_at places k q v l ∙ ap (cond {A = Option Entry} (is_eq (nat_cmp q k)) (Some v)) (sym (at_place places q)) ∙ sym (get-insert nat_cmp_total (map_at places) k v q))

pub inserted : (old grown : List Slot) (k : ℕ) (kept : Box Kept Global) (v : Entry) → kept_in grown ≡ kept_in old → k < length grown → kept.value.entry ≡ v → kept_in (set grown k (Some kept)) ≡ map.insert (kept_in old) k v
inserted old grown k kept v same l is =
    ap map_at (map-set entry_in grown k (Some kept))
    ∙ set_place (entries_in grown) k kept.value.entry (omega (arith, l, length-map grown entry_in))
    ∙ ap (λ (t : Held). map.insert t k kept.value.entry) same
    ∙ ap (map.insert (kept_in old) k) is

listed_none : (index : ℕ) (places : Places) → listed index (places ++ None ∷ []) ≡ listed index places
listed_none index [] = refl
listed_none index (None ∷ rest) = listed_none (index + 1) rest
listed_none index (Some e ∷ rest) = ap (λ (es : List (ℕ × Entry)). (index, e) ∷ es) (listed_none (index + 1) rest)

-- an empty slot behind the others keeps nothing
pub grown : (slots : List Slot) → kept_in (slots ++ None ∷ []) ≡ kept_in slots
grown slots =
    ap map_at (map_push entry_in slots None) ∙ ap (λ (es : List (ℕ × Entry)). map.from_entries {R = nat_cmp} es) (listed_none 0 (entries_in slots))

-- ---- the greatest index

within : (places : Places) (i : ℕ) → IsSome (get_or places i None) → i < length places
within places i s = elim (cases_lt i (length places)) [
  | inl l ↦ l
  | inr le ↦ let none : is_some (get_or places i None) ≡ false = ap is_some (get_or_past places i None le) in absurd (cc)
]

last_place : (front : Places) (v : Entry) → IsGreatestIn (map_at (front ++ Some v ∷ [])) (length front)
last_place front v = (
  ap is_some (at_place (front ++ Some v ∷ []) (length front) ∙ get_or_push front (Some v) None (length front) refl),
  λ j s.
      let there : IsSome (get_or (front ++ Some v ∷ []) j None) = sym (ap is_some (at_place (front ++ Some v ∷ []) j)) ∙ s in
      omega (arith, within (front ++ Some v ∷ []) j there, length_push front (Some v)),
)

pub greatest : (all rest front : List Slot) (slot : Slot) → kept_in rest ≡ kept_in all → rest ≡ front ++ slot ∷ [] → is_some slot ≡ true → IsGreatestIn (kept_in all) (length front)
greatest all rest front None same is s = absurd (cc)
greatest all rest front (Some kept) same is s =
    let e : map_at (entries_in front ++ Some kept.value.entry ∷ []) ≡ kept_in all = sym (ap map_at (map_push entry_in front (Some kept))) ∙ sym (ap kept_in is) ∙ same in
    let long : length (entries_in front) ≡ length front = length-map front entry_in in
    subst (λ (t : Held). IsGreatestIn t (length front)) e
    (subst (λ (n : ℕ). IsGreatestIn (map_at (entries_in front ++ Some kept.value.entry ∷ [])) n) long (last_place (entries_in front) kept.value.entry))

pub passed : (all rest front : List Slot) (slot : Slot) → kept_in rest ≡ kept_in all → rest ≡ front ++ slot ∷ [] → is_some slot ≡ false → kept_in front ≡ kept_in all
passed all rest front None same is s = sym (grown front) ∙ sym (ap kept_in is) ∙ same
passed all rest front (Some kept) same is s = absurd (cc)

pub all_passed : (all rest : List Slot) → kept_in rest ≡ kept_in all → length rest ≡ 0 → kept_in all ≡ map.empty
all_passed all [] same e = sym same
all_passed all (slot ∷ rest) same e = absurd (omega arith)

-- ---- a copy

pub copied_more : (slots done new : List Slot) (i : ℕ) (slot copy : Slot) → i < length slots → slot ≡ get_or slots i slot → entries_in done ≡ entries_in (take i slots) → entry_in copy ≡ entry_in slot → new ≡ done ++ copy ∷ [] → entries_in new ≡ entries_in (take (i + 1) slots)
copied_more slots done new i slot copy l at same is pushed =
    ap entries_in pushed ∙ map_push entry_in done copy ∙ ap (λ (es : Places). es ++ entry_in copy ∷ []) same
    ∙ ap (λ (o : Option Entry). entries_in (take i slots) ++ o ∷ []) (is ∙ ap entry_in at)
    ∙ sym (map_more entry_in slots i slot l)

pub copied_map : (old new given : List Slot) → given ≡ old → entries_in new ≡ entries_in given → kept_in new ≡ kept_in old
copied_map old new given is same = ap map_at (same ∙ ap entries_in is)

-- ---- in a language

abbrev pub spoken : Language → Held → Map
spoken language kept = record { language = language; entries = kept }

pub in_language : (language : Language) (a b : List Slot) → kept_in a ≡ kept_in b → map_of language a ≡ map_of language b
in_language language a b same = ap (spoken language) same

pub put_is : (language : Language) (old new : List Slot) (k : ℕ) (v : Entry) {table : Map} → kept_in new ≡ map.insert (kept_in old) k v → map_of language old ≡ table → map_of language new ≡ table_map.insert table k v
put_is language old new k v e same =
    ap (spoken language) e ∙ ap (λ (t : Map). table_map.insert t k v) same

-- what is kept in one of the slots
pub read_at : (language : Language) (slots : List Slot) (i : ℕ) (slot d : Slot) → AreReadIn language slots → i < length slots → slot ≡ get_or slots i d → IsReadIn language slot
read_at language slots i slot d read l at = subst (IsReadIn language) (sym at) (read i d l)

pub read_none : (language : Language) → IsReadIn language None
read_none language = tt

-- ---- the whole

pub whole_kept : (language : Language) (old new : List Slot) (count : ℕ) (stamp : Option ℕ) → IsWhole language old count stamp → kept_in new ≡ kept_in old → length new ≤ 65536 → AreReadIn language new → IsWhole language new count stamp
whole_kept language old new count stamp whole same few read = record {
  kept = subst (λ (t : Map). IsKept t stamp) (sym (in_language language new old same)) whole.kept;
  counted = whole.counted ∙ sym (ap (λ (t : Held). map.len t) same);
  few = few;
  read = read;
}

pub whole_copied : (language : Language) (old new given : List Slot) (count : ℕ) (stamp : Option ℕ) → IsWhole language old count stamp → given ≡ old → entries_in new ≡ entries_in given → AreReadIn language new → IsWhole language new count stamp
whole_copied language old new given count stamp whole is same read =
    let e : entries_in new ≡ entries_in old = same ∙ ap entries_in is in
    let few : length new ≤ 65536 = omega (arith, whole.few, length-map new entry_in, length-map old entry_in, ap length e) in
    whole_kept language old new count stamp whole (copied_map old new given is same) few read

free_is : (o : Option Entry) → (IsSome o → ⊥) → is_some o ≡ false
free_is None free = refl
free_is (Some v) free = absurd (free refl)

-- an entry more at a free index
pub whole_put : (language : Language) (old new : List Slot) (table : Map) (count k : ℕ) (v : Entry) (before after : Option ℕ) → IsWhole language old count before → map_of language old ≡ table → map_of language new ≡ table_map.insert table k v → (IsSome (table_map.get table k) → ⊥) → length new ≤ 65536 → AreReadIn language new → IsKept (table_map.insert table k v) after → IsWhole language new (count + 1) after
whole_put language old new table count k v before after whole same put free few read kept =
    let none : is_some (table_map.get table k) ≡ false = free_is (table_map.get table k) free in
    let more : table_map.len (table_map.insert table k v) ≡ table_map.len table + 1 = len-insert table k v ∙ rw none refl in
    let counted : count ≡ table_map.len table = whole.counted ∙ ap (λ (t : Map). table_map.len t) same in
    record {
      kept = subst (λ (t : Map). IsKept t after) (sym put) kept;
      counted = ap (λ (n : ℕ). n + 1) counted ∙ sym more ∙ sym (ap (λ (t : Map). table_map.len t) put);
      few = few;
      read = read;
    }
