-- The index of the timestamp's entry.
use Rattle.std.proofs.Common.{◌≡◌, ℕ, Bool, true, false, cond, ◌||◌, nat_lt, List, [], ◌∷◌, Option, Some, None, refl, sym, ap, ◌∙◌, arith}
use Rattle.std.specs.FinMap.{contains_key-keys}
use Rattle.std.specs.List.{find, list_any}
use Rattle.std.specs.Ordering.{nat_cmp, eq_by_cmp}
use Rattle.std.specs.Prelude.{is_some}
use Rattle.std.proofs.lemmas.Bool.{and_from, and_parts, lt-ltb}
use Rattle.std.proofs.lemmas.Bool.Decides.{nat_tests}
use Rattle.defmt_intern.specs.Entries as map
use Rattle.defmt_intern.specs.Stamp.{is_timestamp, has_stamp, is_stamp_at, stamp_of}
use Rattle.defmt_intern.specs.Table.{Map, IsStamp, IsLawful, StampIs}
use Rattle.defmt_intern.specs.declared.entry.Entry.{Entry}
use Rattle.defmt_intern.specs.declared.entry.Tag.{Tag}
use Rattle.defmt_intern.specs.declared.entry.Tag.TheVariants as tags

abbrev some_index : ℕ → Option ℕ
some_index i = Some i

abbrev no_index : Option ℕ
no_index = None

same_key : (i k : ℕ) → eq_by_cmp nat_cmp i k ≡ true → i ≡ k
same_key i k h = grind (arith, nat_tests)

-- what is found passes the test
found : (test : ℕ → Bool) (keys : List ℕ) (i : ℕ) → find test keys ≡ some_index i → test i ≡ true
found test [] i e = absurd (cc)
found test (k ∷ keys) i e =
    elim (test k) as (λ b. test k ≡ b → cond b (some_index k) (find test keys) ≡ some_index i → test i ≡ true) [
      | true ↦ λ p q. let same : k ≡ i = cc in ap test (sym same) ∙ p
      | false ↦ λ p q. found test keys i q
    ] refl e

-- where nothing is found no key passes it
not_found : (test : ℕ → Bool) (keys : List ℕ) (i : ℕ) → find test keys ≡ no_index → list_any (eq_by_cmp nat_cmp i) keys ≡ true → test i ≡ true → ⊥
not_found test [] i e h p = cc
not_found test (k ∷ keys) i e h p =
    elim (test k) as (λ b. test k ≡ b → cond b (some_index k) (find test keys) ≡ no_index → ⊥) [
      | true ↦ λ a q. cc
      | false ↦ λ a q.
          elim (eq_by_cmp nat_cmp i k) as (λ b. eq_by_cmp nat_cmp i k ≡ b → (b || list_any (eq_by_cmp nat_cmp i) keys) ≡ true → ⊥) [
            | true ↦ λ s r. let same : i ≡ k = same_key i k s in let there : test k ≡ true = ap test (sym same) ∙ p in cc
            | false ↦ λ s r. not_found test keys i q r p
          ] refl h
    ] refl e

tag_is : (tag : Tag) → is_timestamp tag ≡ true → tag ≡ tags.Timestamp
tag_is tags.Timestamp h = refl
tag_is tag h = absurd (cc)

has_there : (t : Map) (i : ℕ) (o : Option Entry) → map.get t i ≡ o → has_stamp o ≡ true → IsStamp t i
has_there t i None g h = absurd (cc)
has_there t i (Some e) g h = record { entry = e; there = g; is_stamp = tag_is e.tag h }

-- an index that passes has the timestamp's entry
is_there : (t : Map) (i : ℕ) → is_stamp_at t i ≡ true → IsStamp t i
is_there t i h = let p = and_parts (nat_lt i 65536) (has_stamp (map.get t i)) h in has_there t i (map.get t i) refl p.1

-- and in a lawful table the index of the timestamp's entry passes
passes : (t : Map) (i : ℕ) → IsLawful t → IsStamp t i → is_stamp_at t i ≡ true
passes t i lawful s = and_from (nat_lt i 65536) (has_stamp (map.get t i)) (lt-ltb i 65536 (lawful.small i s.entry s.there)) (ap has_stamp s.there ∙ ap is_timestamp s.is_stamp)

-- where none is found, there is none
none_there : (t : Map) (i : ℕ) → find (is_stamp_at t) (map.keys t) ≡ no_index → IsLawful t → IsStamp t i → ⊥
none_there t i f lawful s = not_found (is_stamp_at t) (map.keys t) i f (sym (contains_key-keys t.entries i) ∙ ap is_some s.there) (passes t i lawful s)

some_there : (t : Map) (i : ℕ) → find (is_stamp_at t) (map.keys t) ≡ some_index i → IsStamp t i
some_there t i f = is_there t i (found (is_stamp_at t) (map.keys t) i f)

by_found : (t : Map) (at o : Option ℕ) → find (is_stamp_at t) (map.keys t) ≡ o → IsLawful t → StampIs t at → o ≡ at
by_found t None None f lawful s = refl
by_found t (Some i) None f lawful s = absurd (none_there t i f lawful s)
by_found t None (Some j) f lawful s = absurd (s j (some_there t j f))
by_found t (Some i) (Some j) f lawful s = ap some_index (lawful.one_stamp j i (some_there t j f) s)

-- the relation gives the function, in a lawful table
pub stamp_is : (t : Map) (at : Option ℕ) → IsLawful t → StampIs t at → stamp_of t ≡ at
unfolding stamp_of
stamp_is t at lawful s = by_found t at (find (is_stamp_at t) (map.keys t)) refl lawful s

there_by : (t : Map) (o : Option ℕ) → find (is_stamp_at t) (map.keys t) ≡ o → IsLawful t → StampIs t o
there_by t None f lawful = λ i s. none_there t i f lawful s
there_by t (Some i) f lawful = some_there t i f

-- and the function gives the relation
pub stamp_there : (t : Map) → IsLawful t → StampIs t (stamp_of t)
unfolding stamp_of
stamp_there t lawful = there_by t (find (is_stamp_at t) (map.keys t)) refl lawful

-- the index that is found passes, whatever the table
pub stamp_found : (t : Map) (i : ℕ) → stamp_of t ≡ Some i → is_stamp_at t i ≡ true
unfolding stamp_of
stamp_found t i h = found (is_stamp_at t) (map.keys t) i h
