-- The places of the ID.
use Rattle.std.proofs.Common.{◌≡◌, ◌∙◌, ℕ, zero, suc, ◌+◌, ◌-◌, ◌<◌, true, false, List, [], ◌∷◌, take, drop, refl, sym, ap, subst, arith, inl, inr}
use Rattle.std.specs.Prelude.{Ok, Err}
use Rattle.std.specs.Bool.{Decides}
use Rattle.std.proofs.lemmas.Bool.{cases_Bool, both_ways, cases_order}
use Rattle.std.proofs.lemmas.List.{drop-drop}
use Rattle.std.proofs.lemmas.Slice.Eq.{bytes_eq-Decides}
use Rattle.rtt_control.specs.declared.fault.Cause.TheVariants.{NoId, TwoIds}
use Rattle.rtt_control.specs.declared.fault.ControlFault.{ControlFault}
use Rattle.rtt_control.specs.Layout.{id, starts_with_id}
use Rattle.rtt_control.specs.Checks.{HasId, refused}
use Rattle.rtt_control.specs.Ids.{IsFindFault, IsOnly, IsSecond}
use Rattle.rtt_control.specs.Control.{answer_of_find, found, id_places}

pub starts_with_id-Decides : (image : List ℕ) (at : ℕ) → Decides (starts_with_id (drop at image)) (HasId image at)
unfolding starts_with_id
starts_with_id-Decides image at =
    let decides = bytes_eq-Decides id (take 16 (drop at image)) in
    (λ h. sym (decides.0 h), λ h. decides.1 (sym h))

none_here : starts_with_id [] ≡ false
unfolding starts_with_id
none_here = refl

-- the first place of some, and those behind it
record IsFirst (at : ℕ) (bytes : List ℕ) (place : ℕ) (rest : List ℕ) : Type 0 where
  number : ℕ
  is : place ≡ at + number
  here : starts_with_id (drop number bytes) ≡ true
  earlier : (k : ℕ) → k < number → starts_with_id (drop k bytes) ≡ false
  later : id_places (at + suc number) (drop (suc number) bytes) ≡ rest

none_first : (b : ℕ) (bytes : List ℕ) → starts_with_id (b ∷ bytes) ≡ false → ((k : ℕ) → starts_with_id (drop k bytes) ≡ false) → (k : ℕ) → starts_with_id (drop k (b ∷ bytes)) ≡ false
none_first b bytes none more zero = none
none_first b bytes none more (suc k) = more k

none_below : (b : ℕ) (bytes : List ℕ) (m : ℕ) → starts_with_id (b ∷ bytes) ≡ false → ((k : ℕ) → k < m → starts_with_id (drop k bytes) ≡ false)
    → (k : ℕ) → k < suc m → starts_with_id (drop k (b ∷ bytes)) ≡ false
none_below b bytes m none earlier zero lt = none
none_below b bytes m none earlier (suc k) lt = earlier k (omega arith)

no_place : (at : ℕ) (bytes : List ℕ) → id_places at bytes ≡ [] → (k : ℕ) → starts_with_id (drop k bytes) ≡ false
no_place at [] is zero = none_here
no_place at [] is (suc k) = none_here
no_place at (b ∷ bytes) is k = elim (cases_Bool (starts_with_id (b ∷ bytes))) [
  | inl some ↦ let bad : at ∷ id_places (at + 1) bytes ≡ [] = rw some at is in absurd (cc)
  | inr none ↦ none_first b bytes none (no_place (at + 1) bytes (rw none at is)) k
]

first_place : (at : ℕ) (bytes : List ℕ) (place : ℕ) (rest : List ℕ) → id_places at bytes ≡ place ∷ rest → IsFirst at bytes place rest
first_place at [] place rest is = absurd (cc)
first_place at (b ∷ bytes) place rest is = elim (cases_Bool (starts_with_id (b ∷ bytes))) [
  | inl some ↦
      let same : at ∷ id_places (at + 1) bytes ≡ place ∷ rest = rw some at is in
      let place_is : at ≡ place = cc in
      let rest_is : id_places (at + 1) bytes ≡ rest = cc in
      let start : at ≡ at + 0 = omega arith in
      record {
        number = 0;
        is = sym place_is ∙ start;
        here = some;
        earlier = λ k lt. absurd (omega arith);
        later = rest_is;
      }
  | inr none ↦
      let more = first_place (at + 1) bytes place rest (rw none at is) in
      let place_is : at + 1 + more.number ≡ at + suc more.number = omega arith in
      let next_is : at + 1 + suc more.number ≡ at + suc (suc more.number) = omega arith in
      record {
        number = suc more.number;
        is = more.is ∙ place_is;
        here = more.here;
        earlier = none_below b bytes more.number none more.earlier;
        later = ap (λ (n : ℕ). id_places n (drop (suc more.number) bytes)) (sym next_is) ∙ more.later;
      }
]

-- ---- what `find` answers

is_here : (image : List ℕ) (at : ℕ) → starts_with_id (drop at image) ≡ true → HasId image at
is_here image at = (starts_with_id-Decides image at).0

not_here : (image : List ℕ) (at : ℕ) → starts_with_id (drop at image) ≡ false → HasId image at → ⊥
not_here image at none h = both_ways (starts_with_id (drop at image)) none ((starts_with_id-Decides image at).1 h)

-- nothing stands at a place behind the first, as the bytes behind it tell
behind : (image : List ℕ) (n at : ℕ) → n < at → starts_with_id (drop (at - suc n) (drop (suc n) image)) ≡ false → HasId image at → ⊥
behind image n at lt none =
    let whole : suc n + (at - suc n) ≡ at = omega arith in
    not_here image at (ap (λ (l : List ℕ). starts_with_id l) (sym (ap (λ (k : ℕ). drop k image) whole) ∙ sym (drop-drop (at - suc n) (suc n) image)) ∙ none)

only_of : (image : List ℕ) (at : ℕ) → IsFirst 0 image at [] → IsOnly (HasId image) at
only_of image at first =
    let n = first.number in
    let same : n ≡ at = omega (arith, first.is) in
    record {
      here = subst (HasId image) same (is_here image n first.here);
      alone = λ other h. elim (cases_order other n) [
        | inl is ↦ is ∙ same
        | inr (inl before) ↦ absurd (not_here image other (first.earlier other before) h)
        | inr (inr after) ↦ absurd (behind image n other after (no_place (0 + suc n) (drop (suc n) image) first.later (other - suc n)) h)
      ];
    }

second_of : (image : List ℕ) (q at : ℕ) (rest : List ℕ) → IsFirst 0 image q (at ∷ rest) → IsSecond (HasId image) at
second_of image q at rest first =
    let n = first.number in
    let next = first_place (0 + suc n) (drop (suc n) image) at rest first.later in
    let m = next.number in
    let whole : suc n + m ≡ at = omega (arith, next.is) in
    let there : starts_with_id (drop at image) ≡ true = ap (λ (l : List ℕ). starts_with_id l) (sym (ap (λ (k : ℕ). drop k image) whole) ∙ sym (drop-drop m (suc n) image)) ∙ next.here in
    record {
      here = is_here image at there;
      first = n;
      before = omega arith;
      there = is_here image n first.here;
      alone = λ other lt h. elim (cases_order other n) [
        | inl is ↦ is
        | inr (inl before) ↦ absurd (not_here image other (first.earlier other before) h)
        | inr (inr after) ↦ absurd (behind image n other after (next.earlier (other - suc n) (omega arith)) h)
      ];
    }

only_by : (image places : List ℕ) (at : ℕ) → id_places 0 image ≡ places → answer_of_find places ≡ Ok at → IsOnly (HasId image) at
only_by image [] at places is = absurd (cc)
only_by image (p ∷ []) at places is = let same : p ≡ at = cc in subst (IsOnly (HasId image)) same (only_of image p (first_place 0 image p [] places))
only_by image (p ∷ q ∷ rest) at places is = absurd (cc)

fault_by : (image places : List ℕ) (fault : ControlFault) → id_places 0 image ≡ places → answer_of_find places ≡ Err fault → IsFindFault image fault
fault_by image [] fault places is = let same : fault ≡ refused NoId 0 = cc in inl (same, λ at. not_here image at (no_place 0 image places at))
fault_by image (p ∷ []) fault places is = absurd (cc)
fault_by image (p ∷ q ∷ rest) fault places is =
    let same : fault ≡ refused TwoIds q = cc in inr (q, same, second_of image p q rest (first_place 0 image p (q ∷ rest) places))

pub find_only : (image : List ℕ) (at : ℕ) → found image ≡ Ok at → IsOnly (HasId image) at
find_only image at = only_by image (id_places 0 image) at refl

pub find_fault : (image : List ℕ) (fault : ControlFault) → found image ≡ Err fault → IsFindFault image fault
find_fault image fault = fault_by image (id_places 0 image) fault refl
