-- IDs, one segment after another.
use Rattle.std.proofs.Common.{◌≡◌, ◌∙◌, ◌<◌, ◌≤◌, ◌+◌, ℕ, List, [], ◌∷◌, ◌++◌, length, drop, get_or, map, refl, sym, ap, subst, arith, append_assoc, append-nil}
use Rattle.std.specs.Prelude.{nat_le, Option, Some, None, Result, Ok, Err, IfErr, IfOk, slice_get}
use Rattle.std.specs.List.{All, filter}
use Rattle.std.specs.List.Sorted.{IsPermutation}
use Rattle.std.proofs.lemmas.List.{drop_all, drop_more, get_or-map, length-map}
use Rattle.std.proofs.lemmas.List.Elements.{All-get_or}
use Rattle.std.proofs.lemmas.List.Sorted.{All-permutation, IsPermutation-sym}
use Rattle.std.proofs.lemmas.Option.{get_or_from_slice_get, slice_get_within}
use Rattle.rtt_control.specs.Control.{id_places}
use Rattle.rtt_dump.specs.Faults.{IsFault}
use Rattle.rtt_dump.specs.Ids.{IsBelow, Rises, at_most_one, ends_by, first_two, id_refusal, ids_from, ids_in, listed, places_in, spots}
use Rattle.rtt_dump.specs.Segments.{Region, region, start_of}
use Rattle.rtt_dump.specs.declared.fault.DumpFault.{DumpFault}
use Rattle.rtt_dump.specs.declared.ids.Spot.{Spot}
use Rattle.rtt_dump.specs.declared.spans.Span.{Span}
use Rattle.rtt_dump.proofs.FlawLemmas.{fault_of_refusal}
use Rattle.rtt_dump.proofs.PartLemmas.{filter_past, filter_rises, places_of_part, places_rise}
use Rattle.rtt_dump.proofs.TwoLaws.{first_two_count}

one_listed : (xs : List Spot) (one : Option Spot) → at_most_one xs ≡ Ok one → listed one ≡ xs
one_listed [] one is = let same : None ≡ one = cc in ap listed (sym same)
one_listed (x ∷ []) one is = let same : Some x ≡ one = cc in ap listed (sym same)
one_listed (x ∷ y ∷ xs) one is = absurd (cc)

refused_more : (xs more : List Spot) (fault : DumpFault) → at_most_one xs ≡ Err fault → id_refusal (xs ++ more) ≡ Some fault
refused_more [] more fault is = absurd (cc)
refused_more (x ∷ []) more fault is = absurd (cc)
refused_more (x ∷ y ∷ xs) more fault is = cc

-- the next segment holds no second ID
one_more : (first one : Option Spot) (n : ℕ) (region : Region) (rest : List Region) (all : List Spot) → listed first ++ ids_from n (region ∷ rest) ≡ all
    → at_most_one (listed first ++ ids_in n region.bytes) ≡ Ok one → listed one ++ ids_from (n + 1) rest ≡ all
one_more first one n region rest all was is =
    ap (λ (l : List Spot). l ++ ids_from (n + 1) rest) (one_listed (listed first ++ ids_in n region.bytes) one is)
    ∙ append_assoc (listed first) (ids_in n region.bytes) (ids_from (n + 1) rest) ∙ was

-- it holds a second one
second_found : (first : Option Spot) (n : ℕ) (region : Region) (rest : List Region) (all : List Spot) (fault : DumpFault)
    → listed first ++ ids_from n (region ∷ rest) ≡ all → at_most_one (listed first ++ ids_in n region.bytes) ≡ Err fault → id_refusal all ≡ Some fault
second_found first n region rest all fault was is =
    ap id_refusal (sym was ∙ sym (append_assoc (listed first) (ids_in n region.bytes) (ids_from (n + 1) rest)))
    ∙ refused_more (listed first ++ ids_in n region.bytes) (ids_from (n + 1) rest) fault is

-- the only ID stands in a segment that was seen
below_next : (n : ℕ) (first : Option Spot) → IsBelow n first → IsBelow (n + 1) first
below_next n None h = tt
below_next n (Some spot) h = omega arith

one_below : (first one : Option Spot) (n : ℕ) (places : List ℕ) → IsBelow n first
    → at_most_one (listed first ++ spots n places) ≡ Ok one → IsBelow (n + 1) one
one_below None one n [] h is = let same : None ≡ one = cc in subst (λ (o : Option Spot). IsBelow (n + 1) o) same tt
one_below None one n (p ∷ []) h is =
    let here : Spot = record { segment = n; at = p } in
    let same : Some here ≡ one = cc in
    subst (λ (o : Option Spot). IsBelow (n + 1) o) same (omega arith)
one_below None one n (p ∷ q ∷ places) h is = absurd (cc)
one_below (Some spot) one n [] h is = let same : Some spot ≡ one = cc in subst (λ (o : Option Spot). IsBelow (n + 1) o) same (below_next n (Some spot) h)
one_below (Some spot) one n (p ∷ places) h is = absurd (cc)

pub below_end : (k n : ℕ) (first : Option Spot) → k ≤ n → IsBelow k first → IsBelow n first
below_end k n None le below = tt
below_end k n (Some spot) le below = omega arith

-- ---- the segments of a list, from number k on

abbrev pub ids_behind : List ℕ → ℕ → List Span → List Spot
ids_behind file k list = ids_from k (map (region file) (drop k list))

drop_here : (list : List Span) (k : ℕ) (span : Span) → slice_get list k ≡ Some span → drop k list ≡ span ∷ drop (k + 1) list
drop_here list k span there =
    drop_more list k span (slice_get_within list k span there) ∙ ap (λ (x : Span). x ∷ drop (k + 1) list) (get_or_from_slice_get list k span span there)

-- what holds at each start holds at the start of each segment
pub at_starts : (starts : List ℕ) (list : List Span) (P : ℕ → Type 0) → IsPermutation (map start_of list) starts → All P starts → All (λ (span : Span). P span.start) list
at_starts starts list P moved all k span below =
    let back : All P (map start_of list) = All-permutation P starts (map start_of list) (IsPermutation-sym (map start_of list) starts moved) all in
    let within : k < length (map start_of list) = omega (arith, below, length-map list start_of) in
    subst P (get_or-map start_of list k span (start_of span) below) (All-get_or P (map start_of list) k (start_of span) within back)

-- of those at the number k
pub at_number : (list : List Span) (k : ℕ) (span : Span) (P : ℕ → Type 0) → All (λ (s : Span). P s.start) list → slice_get list k ≡ Some span → P span.start
at_number list k span P all there =
    subst (λ (s : Span). P s.start) (get_or_from_slice_get list k span span there) (all k span (slice_get_within list k span there))

module _ (file places : List ℕ) (list : List Span) (k : ℕ) (span : Span) (first : Option Spot) (rises : Rises 0 places) (alike : first_two span.start places ≡ first_two span.start (id_places 0 file)) (there : slice_get list k ≡ Some span) where
  before_next : (all : List Spot) → listed first ++ ids_behind file k list ≡ all → listed first ++ ids_from k (region file span ∷ map (region file) (drop (k + 1) list)) ≡ all
  before_next all was = ap (λ (l : List Span). listed first ++ ids_from k (map (region file) l)) (sym (drop_here list k span there)) ∙ was

  picked_next : at_most_one (listed first ++ ids_in k (region file span).bytes) ≡ at_most_one (listed first ++ spots k (places_in span.start span.len places))
  picked_next =
      let start = span.start in
      ap (λ (l : List Spot). at_most_one (listed first ++ l)) (ap (spots k) (places_of_part start span.len file))
      ∙ sym (first_two_count first k start (start + span.len) (filter (nat_le start) places) (filter (nat_le start) (id_places 0 file)) alike
      (filter_rises start 0 places (omega arith) rises) (filter_rises start 0 (id_places 0 file) (omega arith) (places_rise 0 file)))

  pub next_found : (one : Option Spot) (all : List Spot) → listed first ++ ids_behind file k list ≡ all
      → Ok one ≡ at_most_one (listed first ++ spots k (places_in span.start span.len places)) → listed one ++ ids_behind file (k + 1) list ≡ all
  next_found one all was found =
      one_more first one k (region file span) (map (region file) (drop (k + 1) list)) all (before_next all was) (picked_next ∙ sym found)

  pub next_refused : (fault : DumpFault) (all : List Spot) → listed first ++ ids_behind file k list ≡ all
      → Err fault ≡ at_most_one (listed first ++ spots k (places_in span.start span.len places)) → id_refusal all ≡ Some fault
  next_refused fault all was found =
      second_found first k (region file span) (map (region file) (drop (k + 1) list)) all fault (before_next all was) (picked_next ∙ sym found)

  pub next_below : (one : Option Spot) → IsBelow k first → Ok one ≡ at_most_one (listed first ++ spots k (places_in span.start span.len places)) → IsBelow (k + 1) one
  next_below one below found = one_below first one k (places_in span.start span.len places) below (sym found)

-- all were seen
pub all_seen : (file : List ℕ) (list : List Span) (k : ℕ) (first : Option Spot) (all : List Spot) → length list ≤ k → listed first ++ ids_behind file k list ≡ all → listed first ≡ all
all_seen file list k first all past was =
    sym (append-nil (listed first)) ∙ ap (λ (l : List Span). listed first ++ ids_from k (map (region file) l)) (sym (drop_all k list past)) ∙ was

pub only_seen : (r : Result Spot DumpFault) (first : Option Spot) (all : List Spot) → listed first ≡ all → IfOk r (λ spot. listed first ≡ spot ∷ []) → IfOk r (λ spot. all ≡ spot ∷ [])
only_seen (Ok spot) first all seen only = sym seen ∙ only
only_seen (Err e) first all seen only = tt

pub none_seen : (r : Result Spot DumpFault) (first : Option Spot) (all : List Spot) → listed first ≡ all → IfErr r (λ fault. id_refusal (listed first) ≡ Some fault)
    → IfErr r (IsFault (id_refusal all))
none_seen (Ok spot) first all seen none = tt
none_seen (Err e) first all seen none = fault_of_refusal (id_refusal all) e (ap id_refusal (sym seen) ∙ none)

-- ---- the places in one segment

-- the next ID, and so each later one, passes the segment's end
pub none_left : (start end : ℕ) (rest : List ℕ) → 1 ≤ length rest → Rises start rest → end < get_or rest 0 0 + 16 → filter (ends_by end) rest ≡ []
none_left start end [] some rises past = absurd (omega arith)
none_left start end (p ∷ rest) some rises past = let itself : p ≤ p = omega arith in filter_past end p (p ∷ rest) past (itself, rises.1)

pub one_is : (first : Option Spot) → at_most_one (listed first ++ []) ≡ Ok first
one_is None = refl
one_is (Some spot) = refl
