-- The places of the ID, one search after another.
use Rattle.std.proofs.Common.{◌≡◌, ◌∙◌, ℕ, zero, suc, ◌+◌, ◌<◌, ◌≤◌, true, false, List, [], ◌∷◌, length, take, drop, get_or, sym, ap, subst, arith, inl, inr, refl, length-take, length-drop}
use Rattle.std.specs.Prelude.{Some, None}
use Rattle.std.proofs.lemmas.Bool.{cases_Bool}
use Rattle.std.proofs.lemmas.List.{drop_all, drop_more}
use Rattle.memchr.specs.Find.{FindsNeedle, OccursAt}
use Rattle.memchr.proofs.lemmas.MatchLemmas.{OccursAt-from_part, OccursAt-part}
use Rattle.rtt_control.proofs.IdLemmas.{starts_with_id-Decides}
use Rattle.rtt_control.specs.Control.{id_places}
use Rattle.rtt_control.specs.Layout.{id, starts_with_id}
use Rattle.rtt_dump.proofs.PartLemmas.{here_is, here_not}

begins : (bytes : List ℕ) (k : ℕ) → OccursAt bytes id k → starts_with_id (drop k bytes) ≡ true
begins bytes k occurs = (starts_with_id-Decides bytes k).1 (OccursAt-part bytes id k occurs)

begins_not : (bytes : List ℕ) (k : ℕ) → (OccursAt bytes id k → ⊥) → starts_with_id (drop k bytes) ≡ false
begins_not bytes k none = elim (cases_Bool (starts_with_id (drop k bytes))) [
  | inl is ↦
      let part : take 16 (drop k bytes) ≡ id = (starts_with_id-Decides bytes k).0 is in
      let len : length (take 16 (drop k bytes)) ≡ 16 = ap length part in
      let fits : k + length id ≤ length bytes = omega (arith, len, length-take 16 (drop k bytes), length-drop k bytes) in
      absurd (none (OccursAt-from_part bytes id k fits part))
  | inr not ↦ not
]

-- places where the ID doesn't stand are passed over
passed : (at n : ℕ) (bytes : List ℕ) → ((k : ℕ) → k < n → starts_with_id (drop k bytes) ≡ false) → id_places at bytes ≡ id_places (at + n) (drop n bytes)
passed at zero bytes none = let same : at ≡ at + 0 = omega arith in ap (λ (p : ℕ). id_places p bytes) same
passed at (suc n) [] none = refl
passed at (suc n) (b ∷ bytes) none =
    let next : at + 1 + n ≡ at + suc n = omega arith in
    here_not at b bytes (none 0 (omega arith)) ∙ passed (at + 1) n bytes (λ k lt. none (suc k) (omega arith)) ∙ ap (λ (p : ℕ). id_places p (drop n bytes)) next

-- the ID that a search found, and those behind it
found_next : (at k : ℕ) (bytes : List ℕ) → FindsNeedle bytes id 0 (Some k) → id_places at bytes ≡ (at + k) ∷ id_places (at + k + 1) (drop (k + 1) bytes)
found_next at k bytes found =
    let fits : k < length bytes = let all = found.1.fits in omega (arith, all) in
    let more : drop k bytes ≡ get_or bytes k 0 ∷ drop (k + 1) bytes = drop_more bytes k 0 fits in
    passed at k bytes (λ j lt. begins_not bytes j (found.0.before j (omega arith) lt))
    ∙ ap (id_places (at + k)) more
    ∙ here_is (at + k) (get_or bytes k 0) (drop (k + 1) bytes) (subst (λ (l : List ℕ). starts_with_id l ≡ true) more (begins bytes k found.1))

-- a search found none
found_none : (at : ℕ) (bytes : List ℕ) → FindsNeedle bytes id 0 None → id_places at bytes ≡ []
found_none at bytes none =
    let n = length bytes in
    passed at n bytes (λ j lt. begins_not bytes j (none j (omega arith) (omega arith)))
    ∙ ap (id_places (at + n)) (drop_all n bytes (omega arith))

-- ---- the loop

pub next_search : (needle rest cut : List ℕ) (at k : ℕ) → needle ≡ id → FindsNeedle rest needle 0 (Some k) → cut ≡ drop (k + 1) rest
    → id_places at rest ≡ (at + k) ∷ id_places (at + (k + 1)) cut
next_search needle rest cut at k is found cut_is =
    let next : at + k + 1 ≡ at + (k + 1) = omega arith in
    found_next at k rest (subst (λ (l : List ℕ). FindsNeedle rest l 0 (Some k)) is found)
    ∙ ap (λ (l : List ℕ). (at + k) ∷ l) (ap (λ (p : ℕ). id_places p (drop (k + 1) rest)) next ∙ ap (id_places (at + (k + 1))) (sym cut_is))

pub last_search : (needle rest : List ℕ) (at : ℕ) → needle ≡ id → FindsNeedle rest needle 0 None → id_places at rest ≡ []
last_search needle rest at is none = found_none at rest (subst (λ (l : List ℕ). FindsNeedle rest l 0 None) is none)

pub next_length : (needle rest cut : List ℕ) (at k end : ℕ) → needle ≡ id → FindsNeedle rest needle 0 (Some k) → cut ≡ drop (k + 1) rest → at + length rest ≡ end
    → at + (k + 1) + length cut ≡ end
next_length needle rest cut at k end is found cut_is was =
    let fits = (subst (λ (l : List ℕ). FindsNeedle rest l 0 (Some k)) is found).1.fits in
    omega (arith, fits, ap length cut_is, length-drop (k + 1) rest)
