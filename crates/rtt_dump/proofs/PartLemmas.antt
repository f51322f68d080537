-- The IDs in a part of a list of bytes, by those of the whole list.
use Rattle.std.proofs.Common.{◌≡◌, ◌∙◌, ◌<◌, ◌≤◌, ◌+◌, ◌-◌, ℕ, zero, suc, true, false, List, [], ◌∷◌, length, take, drop, get_or, map, refl, sym, ap, subst, arith, inl, inr, length-take}
use Rattle.std.specs.Prelude.{nat_le, nat_eq}
use Rattle.std.specs.List.{filter}
use Rattle.std.specs.List.Sorted.{IsNonDecreasingBy}
use Rattle.std.proofs.lemmas.Bool.{cases_Bool, cases_lt, le-leb, lt-leb}
use Rattle.std.proofs.lemmas.List.{take-take}
use Rattle.rtt_control.proofs.IdLemmas.{starts_with_id-Decides}
use Rattle.rtt_control.specs.Control.{id_places}
use Rattle.rtt_control.specs.Layout.{id, starts_with_id}
use Rattle.rtt_dump.specs.Ids.{Rises, places_in, ends_by}
use lib.Pointwise.{pointwise}

-- ---- places that rise

pub rises_weaken : (low high : ℕ) (places : List ℕ) → low ≤ high → Rises high places → Rises low places
rises_weaken low high [] le rises = tt
rises_weaken low high (p ∷ places) le rises = (omega (arith, rises.0), rises.1)

filter_above : (start low : ℕ) (places : List ℕ) → start ≤ low → Rises low places → filter (nat_le start) places ≡ places
filter_above start low [] le rises = refl
filter_above start low (p ∷ places) le rises =
    let above : start ≤ p = omega (arith, rises.0) in
    rw (le-leb start p above) (ap (λ (l : List ℕ). p ∷ l) (filter_above start p places above rises.1))

pub filter_past : (end low : ℕ) (places : List ℕ) → end < low + 16 → Rises low places → filter (ends_by end) places ≡ []
filter_past end low [] past rises = refl
filter_past end low (p ∷ places) past rises =
    let behind : end < p + 16 = omega (arith, rises.0) in
    rw (lt-leb (p + 16) end behind) (filter_past end p places behind rises.1)

pub filter_rises : (start low : ℕ) (places : List ℕ) → low ≤ start → Rises low places → Rises start (filter (nat_le start) places)
filter_rises start low [] le rises = tt
filter_rises start low (p ∷ places) le rises = elim (cases_lt p start) [
  | inl before ↦ rw (lt-leb start p before) (filter_rises start p places (omega arith) rises.1)
  | inr here ↦ rw (le-leb start p here) (here, subst (λ (l : List ℕ). Rises p l) (sym (filter_above start p places here rises.1)) rises.1)
]

all_above : (low : ℕ) (places : List ℕ) (j d : ℕ) → Rises low places → j < length places → low ≤ get_or places j d
all_above low [] j d rises below = absurd (omega arith)
all_above low (p ∷ places) zero d rises below = rises.0
all_above low (p ∷ places) (suc j) d rises below =
    let later = all_above p places j d rises.1 (omega arith) in omega (arith, rises.0, later)

pub rises_sorted : (low : ℕ) (places : List ℕ) → Rises low places → IsNonDecreasingBy (λ (p : ℕ). p) places
rises_sorted low [] rises i j d le below = absurd (omega arith)
rises_sorted low (p ∷ places) rises zero zero d le below = omega arith
rises_sorted low (p ∷ places) rises zero (suc j) d le below = all_above p places j d rises.1 (omega arith)
rises_sorted low (p ∷ places) rises (suc i) zero d le below = absurd (omega arith)
rises_sorted low (p ∷ places) rises (suc i) (suc j) d le below = rises_sorted p places rises.1 i j d (omega arith) (omega arith)

-- the places from the first one on that isn't below the start
pub from_point : (start low : ℕ) (places : List ℕ) (i : ℕ) → Rises low places → i ≤ length places → ((k d : ℕ) → k < i → get_or places k d < start)
    → ((k d : ℕ) → i ≤ k → k < length places → start ≤ get_or places k d) → drop i places ≡ filter (nat_le start) places
from_point start low [] zero rises within before behind = refl
from_point start low [] (suc i) rises within before behind = absurd (omega arith)
from_point start low (p ∷ places) zero rises within before behind =
    let above : start ≤ p = behind 0 0 (omega arith) (omega arith) in
    let itself : p ≤ p = omega arith in
    sym (filter_above start p (p ∷ places) above (itself, rises.1))
from_point start low (p ∷ places) (suc i) rises within before behind =
    let below : p < start = before 0 0 (omega arith) in
    rw (lt-leb start p below)
    (from_point start p places i rises.1 (omega arith) (λ k d h. before (suc k) d (omega arith)) (λ k d h l. behind (suc k) d (omega arith) (omega arith)))

-- ---- the places of the ID

pub here_is : (at b : ℕ) (bytes : List ℕ) → starts_with_id (b ∷ bytes) ≡ true → id_places at (b ∷ bytes) ≡ at ∷ id_places (at + 1) bytes
here_is at b bytes is = rw is refl

pub here_not : (at b : ℕ) (bytes : List ℕ) → starts_with_id (b ∷ bytes) ≡ false → id_places at (b ∷ bytes) ≡ id_places (at + 1) bytes
here_not at b bytes is = rw is refl

pub places_rise : (at : ℕ) (bytes : List ℕ) → Rises at (id_places at bytes)
places_rise at [] = tt
places_rise at (b ∷ bytes) =
    let next : at ≤ at + 1 = omega arith in
    let itself : at ≤ at = omega arith in
    let later : Rises at (id_places (at + 1) bytes) = rises_weaken at (at + 1) (id_places (at + 1) bytes) next (places_rise (at + 1) bytes) in
    elim (cases_Bool (starts_with_id (b ∷ bytes))) [
      | inl is ↦ subst (λ (l : List ℕ). Rises at l) (sym (here_is at b bytes is)) (itself, later)
      | inr not ↦ subst (λ (l : List ℕ). Rises at l) (sym (here_not at b bytes not)) later
    ]

-- those behind a place
passed_by : (start at b : ℕ) (bytes : List ℕ) → at < start → filter (nat_le start) (id_places at (b ∷ bytes)) ≡ filter (nat_le start) (id_places (at + 1) bytes)
passed_by start at b bytes before =
    let out : filter (nat_le start) (at ∷ id_places (at + 1) bytes) ≡ filter (nat_le start) (id_places (at + 1) bytes) = rw (lt-leb start at before) refl in
    elim (cases_Bool (starts_with_id (b ∷ bytes))) [
      | inl is ↦ ap (filter (nat_le start)) (here_is at b bytes is) ∙ out
      | inr not ↦ ap (filter (nat_le start)) (here_not at b bytes not)
    ]

places_behind : (at k : ℕ) (bytes : List ℕ) → id_places (at + k) (drop k bytes) ≡ filter (nat_le (at + k)) (id_places at bytes)
places_behind at zero bytes =
    let same : at + 0 ≡ at = omega arith in
    ap (λ (n : ℕ). id_places n bytes) same ∙ sym (filter_above (at + 0) at (id_places at bytes) (omega arith) (places_rise at bytes))
places_behind at (suc k) [] = refl
places_behind at (suc k) (b ∷ bytes) =
    let next : at + suc k ≡ at + 1 + k = omega arith in
    ap (λ (n : ℕ). id_places n (drop k bytes)) next ∙ places_behind (at + 1) k bytes
    ∙ ap (λ (n : ℕ). filter (nat_le n) (id_places (at + 1) bytes)) (sym next) ∙ sym (passed_by (at + suc k) at b bytes (omega arith))

-- an ID that the end cuts is none
starts_whole : (m : ℕ) (bytes : List ℕ) → 16 ≤ m → starts_with_id (take m bytes) ≡ starts_with_id bytes
unfolding starts_with_id
starts_whole m bytes fits = ap (λ (l : List ℕ). pointwise nat_eq id l) (take-take 16 m bytes fits)

starts_cut : (m : ℕ) (bytes : List ℕ) → m < 16 → starts_with_id (take m bytes) ≡ false
starts_cut m bytes short = elim (cases_Bool (starts_with_id (take m bytes))) [
  | inl is ↦
      let whole : take 16 (take m bytes) ≡ id = (starts_with_id-Decides (take m bytes) 0).0 is in
      let len : length (take 16 (take m bytes)) ≡ 16 = ap length whole in
      absurd (omega (arith, len, length-take 16 (take m bytes), length-take m bytes))
  | inr not ↦ not
]

-- those up to an end
ended_by : (end at b : ℕ) (bytes : List ℕ) → at + 16 ≤ end → starts_with_id (b ∷ bytes) ≡ true → filter (ends_by end) (id_places at (b ∷ bytes)) ≡ at ∷ filter (ends_by end) (id_places (at + 1) bytes)
ended_by end at b bytes fits is =
    let kept : filter (ends_by end) (at ∷ id_places (at + 1) bytes) ≡ at ∷ filter (ends_by end) (id_places (at + 1) bytes) = rw (le-leb (at + 16) end fits) refl in
    ap (filter (ends_by end)) (here_is at b bytes is) ∙ kept

cut_by : (end at b : ℕ) (bytes : List ℕ) → end < at + 16 → filter (ends_by end) (id_places at (b ∷ bytes)) ≡ filter (ends_by end) (id_places (at + 1) bytes)
cut_by end at b bytes short =
    let out : filter (ends_by end) (at ∷ id_places (at + 1) bytes) ≡ filter (ends_by end) (id_places (at + 1) bytes) = rw (lt-leb (at + 16) end short) refl in
    elim (cases_Bool (starts_with_id (b ∷ bytes))) [
      | inl is ↦ ap (filter (ends_by end)) (here_is at b bytes is) ∙ out
      | inr not ↦ ap (filter (ends_by end)) (here_not at b bytes not)
    ]

places_up_to : (at n : ℕ) (bytes : List ℕ) → id_places at (take n bytes) ≡ filter (ends_by (at + n)) (id_places at bytes)
places_up_to at zero bytes = sym (filter_past (at + 0) at (id_places at bytes) (omega arith) (places_rise at bytes))
places_up_to at (suc n) [] = refl
places_up_to at (suc n) (b ∷ bytes) =
    let next : at + 1 + n ≡ at + suc n = omega arith in
    let later : id_places (at + 1) (take n bytes) ≡ filter (ends_by (at + suc n)) (id_places (at + 1) bytes) =
    places_up_to (at + 1) n bytes ∙ ap (λ (end : ℕ). filter (ends_by end) (id_places (at + 1) bytes)) next in
    elim (cases_lt (suc n) 16) [
      | inl short ↦ here_not at b (take n bytes) (starts_cut (suc n) (b ∷ bytes) short) ∙ later ∙ sym (cut_by (at + suc n) at b bytes (omega arith))
      | inr fits ↦
          let whole : starts_with_id (b ∷ take n bytes) ≡ starts_with_id (b ∷ bytes) = starts_whole (suc n) (b ∷ bytes) fits in
          elim (cases_Bool (starts_with_id (b ∷ bytes))) [
            | inl is ↦ here_is at b (take n bytes) (whole ∙ is) ∙ ap (λ (l : List ℕ). at ∷ l) later ∙ sym (ended_by (at + suc n) at b bytes (omega arith) is)
            | inr not ↦ here_not at b (take n bytes) (whole ∙ not) ∙ later ∙ ap (filter (ends_by (at + suc n))) (sym (here_not at b bytes not))
          ]
    ]

-- counted from another place
places_moved : (at k : ℕ) (bytes : List ℕ) → id_places at bytes ≡ map (λ (p : ℕ). p - k) (id_places (at + k) bytes)
places_moved at k [] = refl
places_moved at k (b ∷ bytes) =
    let next : at + 1 + k ≡ at + k + 1 = omega arith in
    let back : at ≡ at + k - k = omega arith in
    let later : id_places (at + 1) bytes ≡ map (λ (p : ℕ). p - k) (id_places (at + k + 1) bytes) =
    places_moved (at + 1) k bytes ∙ ap (λ (n : ℕ). map (λ (p : ℕ). p - k) (id_places n bytes)) next in
    elim (cases_Bool (starts_with_id (b ∷ bytes))) [
      | inl is ↦ here_is at b bytes is ∙ ap (λ (p : ℕ). p ∷ id_places (at + 1) bytes) back ∙ ap (λ (l : List ℕ). (at + k - k) ∷ l) later
          ∙ ap (map (λ (p : ℕ). p - k)) (sym (here_is (at + k) b bytes is))
      | inr not ↦ here_not at b bytes not ∙ later ∙ ap (map (λ (p : ℕ). p - k)) (sym (here_not (at + k) b bytes not))
    ]

pub places_of_part : (start len : ℕ) (bytes : List ℕ) → id_places 0 (take len (drop start bytes)) ≡ places_in start len (id_places 0 bytes)
places_of_part start len bytes =
    let same : 0 + start ≡ start = omega arith in
    let behind : id_places start (drop start bytes) ≡ filter (nat_le start) (id_places 0 bytes) =
    ap (λ (n : ℕ). id_places n (drop start bytes)) (sym same) ∙ places_behind 0 start bytes ∙ ap (λ (n : ℕ). filter (nat_le n) (id_places 0 bytes)) same in
    places_moved 0 start (take len (drop start bytes))
    ∙ ap (map (λ (p : ℕ). p - start)) (ap (λ (n : ℕ). id_places n (take len (drop start bytes))) same ∙ places_up_to start len (drop start bytes) ∙ ap (filter (ends_by (start + len))) behind)
