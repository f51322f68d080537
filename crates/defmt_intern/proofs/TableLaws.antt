-- The map of a table.
use Rattle.std.proofs.Common.{◌≡◌, ◌≢◌, ◌≤◌, ◌<◌, ◌+◌, ◌^◌, ◌⊎◌, inl, inr, ℕ, true, false, List, [], length, Option, Some, None, is_eq, refl, sym, ap, subst, ◌∙◌, arith, nat_cmp, Bor, Result, Ok, Err, MatchOption}
use Rattle.std.specs.Prelude.{SomeIff, ⊤, IsSome, is_some}
use Rattle.std.specs.Option.{option_copied}
use Rattle.std.proofs.lemmas.Bool.{cases_eq, cases_lt}
use Rattle.std.proofs.lemmas.Bool.Decides.{nat_tests}
use Rattle.defmt_grammar.specs.declared.language.Language.{Language}
use Rattle.defmt_intern.specs.declared.putting.Cause.{Cause}
use Rattle.defmt_intern.specs.declared.table.TableFault.{TableFault}
use Rattle.defmt_intern.specs.declared.entry.Entry.{Entry}
use Rattle.defmt_intern.specs.declared.entry.Tag.TheVariants.{Timestamp}
use Rattle.defmt_intern.specs.Table.{Map, Slot, IsStamp, IsLawful, StampIs, IsKept, IsWhole, IsSecond, EntryRefused, InsertRefused, AddRefused, IsGreatest, IsNext, Puts, PutsUnlessMemory, cause_number}
use Rattle.defmt_intern.specs.Entries as map
use Rattle.defmt_intern.proofs.EntriesLaws.{get-empty_of, get-insert, len-empty_of}
use Rattle.defmt_intern.specs.declared.table.TableFault.TheVariants as faults

pub here : (table : Map) (k : ℕ) (v : Entry) → map.get (map.insert table k v) k ≡ Some v
here table k v = get-insert table k v k ∙ (let t : is_eq (nat_cmp k k) ≡ true = grind (arith, nat_tests) in rw t refl)

pub apart : (table : Map) (k : ℕ) (v : Entry) (q : ℕ) → q ≢ k → map.get (map.insert table k v) q ≡ map.get table q
apart table k v q n = get-insert table k v q ∙ (let t : is_eq (nat_cmp q k) ≡ false = grind (arith, nat_tests) in rw t refl)

nothing : (language : Language) (q : ℕ) (e : Entry) → map.get (map.empty_of language) q ≡ Some e → ⊥
nothing language q e h = let k : map.get (map.empty_of language) q ≡ None = get-empty_of language q in cc

pub whole_empty : (language : Language) (slots : List Slot) → slots ≡ [] → IsWhole language slots 0 None
whole_empty language slots e = subst (λ (xs : List Slot). IsWhole language xs 0 None) (sym e) (record {
  kept = record {
    lawful = record {
      small = λ i entry h. absurd (nothing language i entry h);
      short = λ i entry h. absurd (nothing language i entry h);
      one_stamp = λ i j a b. absurd (nothing language i a.entry a.there);
    };
    stamp_is = λ i a. absurd (nothing language i a.entry a.there);
  };
  counted = sym (len-empty_of language);
  few = omega arith;
  read = λ k d l. absurd (omega (arith, l));
})

same_entry : (a b : Entry) → Some a ≡ Some b → a ≡ b
same_entry a b e = cc

-- a property of the new entry and of the old ones is one of all
all_insert : (table : Map) (k : ℕ) (v : Entry) (P : ℕ → Entry → Type 0) → P k v → ((q : ℕ) (e : Entry) → map.get table q ≡ Some e → P q e) → (q : ℕ) (e : Entry) → map.get (map.insert table k v) q ≡ Some e → P q e
all_insert table k v P new old q e h = elim (cases_eq q k) [
  | inl same ↦ subst (λ (i : ℕ). P i e) (sym same) (subst (P k) (same_entry v e (sym (here table k v) ∙ ap (map.get (map.insert table k v)) (sym same) ∙ h)) new)
  | inr other ↦ old q e (sym (apart table k v q other) ∙ h)
]

-- a stamp of the new table is the new entry or an old stamp
either_stamp : (table : Map) (k : ℕ) (v : Entry) (q : ℕ) → IsStamp (map.insert table k v) q → ((q ≡ k) × (v.tag ≡ Timestamp)) ⊎ IsStamp table q
either_stamp table k v q a =
    all_insert table k v (λ i e. e.tag ≡ Timestamp → ((i ≡ k) × (v.tag ≡ Timestamp)) ⊎ IsStamp table i)
    (λ t. inl (refl, t)) (λ i e h t. inr (record { entry = e; there = h; is_stamp = t })) q a.entry a.there a.is_stamp

one_with : (table : Map) (k : ℕ) (v : Entry) → ((i j : ℕ) → IsStamp table i → IsStamp table j → i ≡ j) → (v.tag ≡ Timestamp → (i : ℕ) → IsStamp table i → ⊥) → (i j : ℕ) → IsStamp (map.insert table k v) i → IsStamp (map.insert table k v) j → i ≡ j
one_with table k v one none i j a b = elim (either_stamp table k v i a) [
  | inl x ↦ elim (either_stamp table k v j b) [ inl y ↦ x.0 ∙ sym y.0 | inr y ↦ absurd (none x.1 j y) ]
  | inr x ↦ elim (either_stamp table k v j b) [ inl y ↦ absurd (none y.1 i x) | inr y ↦ one i j x y ]
]

lawful_insert : (table : Map) (k : ℕ) (v : Entry) → IsLawful table → k < 2 ^ 16 → length v.text ≤ 4096 → (v.tag ≡ Timestamp → (i : ℕ) → IsStamp table i → ⊥) → IsLawful (map.insert table k v)
lawful_insert table k v l small short none = record {
  small = all_insert table k v (λ i e. i < 2 ^ 16) small l.small;
  short = all_insert table k v (λ i e. length e.text ≤ 4096) short l.short;
  one_stamp = one_with table k v l.one_stamp none;
}

-- not refused
pub is_short : (table : Map) (v : Entry) → ((cause : ℕ) → EntryRefused table v cause → ⊥) → length v.text ≤ 4096
is_short table v h = elim (cases_lt 4096 (length v.text)) [ inl l ↦ absurd (h 4 (inl (refl, l))) | inr le ↦ le ]

pub is_first : (table : Map) (v : Entry) → ((cause : ℕ) → EntryRefused table v cause → ⊥) → v.tag ≡ Timestamp → (i : ℕ) → IsStamp table i → ⊥
is_first table v h t i a = h 5 (inr (refl, (λ l. h 4 (inl (refl, l))), (t, (i, a))))

pub kept_stamp : (table : Map) (stamp : Option ℕ) (k : ℕ) (v : Entry) → IsKept table stamp → k < 2 ^ 16 → ((cause : ℕ) → EntryRefused table v cause → ⊥) → v.tag ≡ Timestamp → IsKept (map.insert table k v) (Some k)
kept_stamp table stamp k v kept small h t = record {
  lawful = lawful_insert table k v kept.lawful small (is_short table v h) (is_first table v h);
  stamp_is = record { entry = v; there = here table k v; is_stamp = t };
}

stamp_stays : (table : Map) (stamp : Option ℕ) (k : ℕ) (v : Entry) → StampIs table stamp → (IsSome (map.get table k) → ⊥) → (v.tag ≡ Timestamp → ⊥) → StampIs (map.insert table k v) stamp
stamp_stays table None k v h free n = λ i a. elim (either_stamp table k v i a) [ inl x ↦ n x.1 | inr y ↦ h i y ]
stamp_stays table (Some i) k v h free n =
    let other : i ≢ k = λ e. free (subst IsSome (sym h.there ∙ ap (map.get table) e) refl) in
    record { entry = h.entry; there = apart table k v i other ∙ h.there; is_stamp = h.is_stamp }

pub kept_other : (table : Map) (stamp : Option ℕ) (k : ℕ) (v : Entry) → IsKept table stamp → k < 2 ^ 16 → (IsSome (map.get table k) → ⊥) → ((cause : ℕ) → EntryRefused table v cause → ⊥) → (v.tag ≡ Timestamp → ⊥) → IsKept (map.insert table k v) stamp
kept_other table stamp k v kept small free h n = record {
  lawful = lawful_insert table k v kept.lawful small (is_short table v h) (is_first table v h);
  stamp_is = stamp_stays table stamp k v kept.stamp_is free n;
}

pub no_stamp : (table : Map) (stamp : Option ℕ) → StampIs table stamp → is_some stamp ≡ false → (i : ℕ) → IsStamp table i → ⊥
no_stamp table None h e = h
no_stamp table (Some j) h e = absurd cc

pub no_refusal : (table : Map) (v : Entry) → length v.text ≤ 4096 → (IsSecond table v → ⊥) → (cause : ℕ) → EntryRefused table v cause → ⊥
no_refusal table v short one cause (inl x) = absurd (let l = x.1 in omega arith)
no_refusal table v short one cause (inr x) = one x.2

-- ---- the next index

abbrev FreeNext : Map → ℕ → Type 0
FreeNext table n = IsNext table n × (IsSome (map.get table n) → ⊥) × (IsGreatest table 65535 → ⊥)

nowhere : (language : Language) (q : ℕ) → IsSome (map.get (map.empty_of language) q) → ⊥
nowhere language q h = let k : map.get (map.empty_of language) q ≡ None = get-empty_of language q in let g : is_some (map.get (map.empty_of language) q) ≡ false = ap is_some k in absurd cc

empty_next : (language : Language) → FreeNext (map.empty_of language) 1
empty_next language = (inl (refl, refl), nowhere language 1, (λ g. nowhere language 65535 g.0))

pub next_none : (language : Language) (table : Map) → table ≡ map.empty_of language → FreeNext table 1
next_none language table e = subst (λ (t : Map). FreeNext t 1) (sym e) (empty_next language)

next_by : (table : Map) (g : ℕ) (r : Option ℕ) → IsGreatest table g → g < 65536 → SomeIff r (g + 1 < 65536) (g + 1) → MatchOption r (IsGreatest table 65535) (FreeNext table)
next_by table g None top small h = subst (IsGreatest table) (let k : g ≡ 65535 = elim (cases_lt (g + 1) 65536) [ inl l ↦ absurd (h l) | inr le ↦ omega arith ] in k) top
next_by table g (Some n) top small h =
    (inr (g, top, h.1), (λ s. let le = top.1 n s in let e = h.1 in absurd (omega arith)), (λ f. let le = top.1 65535 f.0 in let l = h.0 in absurd (omega arith)))

small_at : (table : Map) (g : ℕ) (o : Option Entry) → map.get table g ≡ o → IsLawful table → IsSome o → g < 65536
small_at table g None e lawful s = absurd (cc)
small_at table g (Some v) e lawful s = let l = lawful.small g v e in omega arith

pub next_some : (table : Map) (g : ℕ) (r : Option ℕ) → IsGreatest table g → IsLawful table → SomeIff r (g + 1 < 65536) (g + 1) → MatchOption r (IsGreatest table 65535) (FreeNext table)
next_some table g r top lawful h = next_by table g r top (small_at table g (map.get table g) refl lawful top.0) h

-- ---- answers

pub none_there : (o : Option (Bor Entry)) (m : Option Entry) → option_copied o ≡ m → is_some o ≡ false → IsSome m → ⊥
none_there None m e f s = let k : is_some m ≡ false = ap is_some (sym e) in absurd cc
none_there (Some x) m e f s = absurd cc

pub puts : (old : Map) (i : ℕ) (v : Entry) (r : Result ⊤ TableFault) (new : Map) → ((cause : ℕ) → InsertRefused old i v cause → ⊥) → PutsUnlessMemory old i v r new → Puts old i v (InsertRefused old i v) r new
puts old i v (Ok done) new h p = (p, h)
puts old i v (Err (faults.Refused c)) new h p = absurd p
puts old i v (Err faults.Memory) new h p = p

pub may_insert : (old : Map) (i : ℕ) (v : Entry) → (IsSome (map.get old i) → ⊥) → ((cause : ℕ) → EntryRefused old v cause → ⊥) → (cause : ℕ) → InsertRefused old i v cause → ⊥
may_insert old i v free h cause (inl x) = free x.1
may_insert old i v free h cause (inr x) = h cause x.1

pub may_add : (old : Map) (v : Entry) → (IsGreatest old 65535 → ⊥) → ((cause : ℕ) → EntryRefused old v cause → ⊥) → (cause : ℕ) → AddRefused old v cause → ⊥
may_add old v free h cause (inl x) = free x.1
may_add old v free h cause (inr x) = h cause x.1

-- ---- causes

-- an entry that nothing refuses at an index: that index is free, and the entry is admitted
pub free_there : (table : Map) (k : ℕ) (v : Entry) → ((cause : ℕ) → InsertRefused table k v cause → ⊥) → IsSome (map.get table k) → ⊥
free_there table k v h some = h 2 (inl (refl, some))

pub admitted : (table : Map) (k : ℕ) (v : Entry) → ((cause : ℕ) → InsertRefused table k v cause → ⊥) → (cause : ℕ) → EntryRefused table v cause → ⊥
admitted table k v h cause e = h cause (inr (free_there table k v h, e))

-- where the index is free, the entry alone is the cause
pub refused_by_entry : (table : Map) (k : ℕ) (v : Entry) (r : Option Cause) → (IsSome (map.get table k) → ⊥)
    → MatchOption r ((cause : ℕ) → EntryRefused table v cause → ⊥) (λ cause. EntryRefused table v (cause_number cause))
    → MatchOption r ((cause : ℕ) → InsertRefused table k v cause → ⊥) (λ cause. InsertRefused table k v (cause_number cause))
refused_by_entry table k v None free h = may_insert table k v free h
refused_by_entry table k v (Some cause) free h = inr (free, h)

-- there is one cause at most
one_of_entry : (table : Map) (v : Entry) (a b : ℕ) → EntryRefused table v a → EntryRefused table v b → a ≡ b
one_of_entry table v a b (inl x) (inl y) = x.0 ∙ sym y.0
one_of_entry table v a b (inl x) (inr y) = absurd (y.1 x.1)
one_of_entry table v a b (inr x) (inl y) = absurd (x.1 y.1)
one_of_entry table v a b (inr x) (inr y) = x.0 ∙ sym y.0

pub one_refusal : (table : Map) (k : ℕ) (v : Entry) (a b : ℕ) → InsertRefused table k v a → InsertRefused table k v b → a ≡ b
one_refusal table k v a b (inl x) (inl y) = x.0 ∙ sym y.0
one_refusal table k v a b (inl x) (inr y) = absurd (y.0 x.1)
one_refusal table k v a b (inr x) (inl y) = absurd (x.0 y.1)
one_refusal table k v a b (inr x) (inr y) = one_of_entry table v a b x.1 y.1

pub one_refusal_to_add : (table : Map) (v : Entry) (a b : ℕ) → AddRefused table v a → AddRefused table v b → a ≡ b
one_refusal_to_add table v a b (inl x) (inl y) = x.0 ∙ sym y.0
one_refusal_to_add table v a b (inl x) (inr y) = absurd (y.0 x.1)
one_refusal_to_add table v a b (inr x) (inl y) = absurd (x.0 y.1)
one_refusal_to_add table v a b (inr x) (inr y) = one_of_entry table v a b x.1 y.1
