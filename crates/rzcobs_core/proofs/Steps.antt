-- The canonical code, block by block.
use Rattle.std.proofs.Common.{◌≡◌, inl, inr, ℕ, zero, suc, ◌+◌, ◌*◌, ◌<◌, ◌≤◌, List, [], ◌∷◌, ◌++◌, length, take, drop, refl, sym, ◌∙◌, ap, arith, length-append, length-drop, append_assoc, ◌/◌}
use Rattle.std.proofs.lemmas.Bool.{cases_eq, cases_lt}
use Rattle.std.proofs.lemmas.List.{append-nil, length-take-le, take_all, take_at, drop_at, drop_all, take-append-le}
use Rattle.rzcobs_core.specs.Blocks.{zero_bits, nonzero, first_form, second_form, third_form}
use Rattle.rzcobs_core.specs.Canon.{canon, canon_within, lead, padded}
use Rattle.rzcobs_core.proofs.Bits.{zero_bits-zero, zero_bits-other, nonzero-zero, nonzero-other, length-nonzero}
use Rattle.rzcobs_core.proofs.Padding.{canon_short, nonzero-padded}
use Rattle.rzcobs_core.proofs.Greedy.{lead-zero, lead-other, lead-nil, lead_within, lead_long, canon_within-nil, step_short, step_few, step_third, step_second}

-- the bound on the recursion doesn't matter

same_most : (a b : ℕ) (m : List ℕ) → length m ≤ a → length m ≤ b → canon_within a m ≡ canon_within b m
same_most a b [] left right = canon_within-nil a ∙ sym (canon_within-nil b)
same_most zero b (x ∷ xs) left right = absurd (omega arith)
same_most (suc a) zero (x ∷ xs) left right = absurd (omega arith)
same_most (suc a) (suc b) (x ∷ xs) left right =
    let m : List ℕ = x ∷ xs in
    elim (cases_lt (length m) 7) [
      | inl brief ↦ step_short a x xs brief ∙ sym (step_short b x xs brief)
      | inr long ↦ elim (cases_lt 0 (zero_bits (take 7 m))) [
        | inl some ↦ step_few a x xs long some
            ∙ ap (λ (l : List ℕ). first_form (take 7 m) ++ l) (same_most a b (drop 7 m) (omega (arith, length-drop 7 m, left)) (omega (arith, length-drop 7 m, right)))
            ∙ sym (step_few b x xs long some)
        | inr none ↦
            let no_zero : zero_bits (take 7 m) ≡ 0 = omega arith in
            elim (cases_lt (lead m) 134) [
              | inl near ↦ step_second a x xs long no_zero near
                  ∙ ap (λ (l : List ℕ). second_form (take (lead m) m) ++ l) (same_most a b (drop (lead m + 1) m) (omega (arith, length-drop (lead m + 1) m, left)) (omega (arith, length-drop (lead m + 1) m, right)))
                  ∙ sym (step_second b x xs long no_zero near)
              | inr deep ↦ step_third a x xs long no_zero deep
                  ∙ ap (λ (l : List ℕ). third_form (take 134 m) ++ l) (same_most a b (drop 134 m) (omega (arith, length-drop 134 m, left)) (omega (arith, length-drop 134 m, right)))
                  ∙ sym (step_third b x xs long no_zero deep)
            ]
      ]
    ]

enough : (most : ℕ) (m : List ℕ) → length m ≤ most → canon_within most m ≡ canon m
unfolding canon
enough most m le = same_most most (length m) m le (omega arith)

pub canon-nil : canon [] ≡ []
unfolding canon
canon-nil = canon_within-nil 0

-- one block of a message of seven bytes and more

pub first_few : (m : List ℕ) → 7 ≤ length m → 0 < zero_bits (take 7 m) → canon m ≡ first_form (take 7 m) ++ canon (drop 7 m)
unfolding canon
first_few [] long some = absurd (omega arith)
first_few (x ∷ xs) long some = step_few (length xs) x xs long some ∙ ap (λ (l : List ℕ). first_form (take 7 (x ∷ xs)) ++ l) (enough (length xs) (drop 7 (x ∷ xs)) (omega (arith, length-drop 7 (x ∷ xs))))

pub first_third : (m : List ℕ) → 7 ≤ length m → zero_bits (take 7 m) ≡ 0 → 134 ≤ lead m → canon m ≡ third_form (take 134 m) ++ canon (drop 134 m)
unfolding canon
first_third [] long none deep = absurd (omega arith)
first_third (x ∷ xs) long none deep = step_third (length xs) x xs long none deep ∙ ap (λ (l : List ℕ). third_form (take 134 (x ∷ xs)) ++ l) (enough (length xs) (drop 134 (x ∷ xs)) (omega (arith, length-drop 134 (x ∷ xs))))

pub first_second : (m : List ℕ) → 7 ≤ length m → zero_bits (take 7 m) ≡ 0 → lead m < 134 → canon m ≡ second_form (take (lead m) m) ++ canon (drop (lead m + 1) m)
unfolding canon
first_second [] long none near = absurd (omega arith)
first_second (x ∷ xs) long none near = step_second (length xs) x xs long none near
    ∙ ap (λ (l : List ℕ). second_form (take (lead (x ∷ xs)) (x ∷ xs)) ++ l) (enough (length xs) (drop (lead (x ∷ xs) + 1) (x ∷ xs)) (omega (arith, length-drop (lead (x ∷ xs) + 1) (x ∷ xs))))

-- the same, of the bytes that an encoder has gathered

pub none_stored : (xs : List ℕ) → zero_bits xs ≡ 0 → nonzero xs ≡ xs
none_stored [] none = refl
none_stored (x ∷ xs) none = elim (cases_eq x 0) [
  | inl is ↦ absurd (omega (arith, zero_bits-zero x xs is))
  | inr not ↦ nonzero-other x xs not ∙ ap (λ (l : List ℕ). x ∷ l) (none_stored xs (omega (arith, zero_bits-other x xs not)))
]

lead-append : (xs ys : List ℕ) → zero_bits xs ≡ 0 → lead (xs ++ ys) ≡ length xs + lead ys
lead-append [] ys none = omega arith
lead-append (x ∷ xs) ys none = elim (cases_eq x 0) [
  | inl is ↦ absurd (omega (arith, zero_bits-zero x xs is))
  | inr not ↦ omega (arith, lead-other x (xs ++ ys) not, lead-append xs ys (omega (arith, zero_bits-other x xs not)))
]

none_in_front : (n : ℕ) (xs : List ℕ) → zero_bits xs ≡ 0 → zero_bits (take n xs) ≡ 0
none_in_front zero xs none = refl
none_in_front (suc n) [] none = refl
none_in_front (suc n) (x ∷ xs) none = elim (cases_eq x 0) [
  | inl is ↦ absurd (omega (arith, zero_bits-zero x xs is))
  | inr not ↦ omega (arith, zero_bits-other x (take n xs) not, none_in_front n xs (omega (arith, zero_bits-other x xs not)))
]

front_seven : (xs ys : List ℕ) → 7 ≤ length xs → zero_bits xs ≡ 0 → zero_bits (take 7 (xs ++ ys)) ≡ 0
front_seven xs ys long none = ap zero_bits (take-append-le 7 xs ys long) ∙ none_in_front 7 xs none

pub canon_few : (seven rest : List ℕ) → length seven ≡ 7 → 0 < zero_bits seven → canon (seven ++ rest) ≡ first_form seven ++ canon rest
canon_few seven rest all some =
    let front : take 7 (seven ++ rest) ≡ seven = take_at seven rest 7 all in
    let behind : drop 7 (seven ++ rest) ≡ rest = drop_at seven rest 7 all in
    first_few (seven ++ rest) (omega (arith, length-append seven rest)) (omega (arith, ap zero_bits front))
    ∙ ap (λ (l : List ℕ). first_form l ++ canon (drop 7 (seven ++ rest))) front ∙ ap (λ (l : List ℕ). first_form seven ++ canon l) behind

pub canon_third : (xs rest : List ℕ) → length xs ≡ 134 → zero_bits xs ≡ 0 → canon (xs ++ rest) ≡ third_form xs ++ canon rest
canon_third xs rest all none =
    first_third (xs ++ rest) (omega (arith, length-append xs rest)) (front_seven xs rest (omega arith) none) (omega (arith, lead-append xs rest none))
    ∙ ap (λ (l : List ℕ). third_form l ++ canon (drop 134 (xs ++ rest))) (take_at xs rest 134 all) ∙ ap (λ (l : List ℕ). third_form xs ++ canon l) (drop_at xs rest 134 all)

pub canon_second : (xs rest : List ℕ) → 7 ≤ length xs → length xs ≤ 133 → zero_bits xs ≡ 0 → canon (xs ++ 0 ∷ rest) ≡ second_form xs ++ canon rest
canon_second xs rest least most none =
    let m = xs ++ 0 ∷ rest in
    let place : lead m ≡ length xs = lead-append xs (0 ∷ rest) none ∙ (let e : length xs + lead (0 ∷ rest) ≡ length xs = omega (arith, lead-zero 0 rest refl) in e) in
    let behind : drop (length xs + 1) m ≡ rest = ap (drop (length xs + 1)) (sym (append_assoc xs (0 ∷ []) rest)) ∙ drop_at (xs ++ 0 ∷ []) rest (length xs + 1) (length-append xs (0 ∷ [])) in
    first_second m (omega (arith, length-append xs (0 ∷ rest))) (front_seven xs (0 ∷ rest) least none) (omega (arith, place))
    ∙ ap (λ (n : ℕ). second_form (take n m) ++ canon (drop (n + 1) m)) place
    ∙ ap (λ (l : List ℕ). second_form l ++ canon (drop (length xs + 1) m)) (take_at xs (0 ∷ rest) (length xs) refl) ∙ ap (λ (l : List ℕ). second_form xs ++ canon l) behind

pub canon_last : (xs : List ℕ) → 7 ≤ length xs → length xs ≤ 133 → zero_bits xs ≡ 0 → canon xs ≡ second_form xs
canon_last xs least most none =
    let place : lead xs ≡ length xs = ap lead (sym (append-nil xs)) ∙ lead-append xs [] none ∙ (let e : length xs + lead [] ≡ length xs = omega (arith, lead-nil) in e) in
    first_second xs least (none_in_front 7 xs none) (omega (arith, place))
    ∙ ap (λ (n : ℕ). second_form (take n xs) ++ canon (drop (n + 1) xs)) place
    ∙ ap (λ (l : List ℕ). second_form l ++ canon (drop (length xs + 1) xs)) (take_all (length xs) xs (omega arith))
    ∙ ap (λ (l : List ℕ). second_form xs ++ canon l) (drop_all (length xs + 1) xs (omega arith)) ∙ ap (λ (l : List ℕ). second_form xs ++ l) canon-nil ∙ append-nil (second_form xs)

-- how long it is

-- a zero isn't stored
pub fewer_stored : (xs : List ℕ) → 0 < zero_bits xs → length (nonzero xs) < length xs
fewer_stored [] some = absurd (omega arith)
fewer_stored (x ∷ xs) some = elim (cases_eq x 0) [
  | inl is ↦ omega (arith, ap length (nonzero-zero x xs is), length-nonzero xs)
  | inr not ↦ omega (arith, ap length (nonzero-other x xs not), fewer_stored xs (omega (arith, zero_bits-other x xs not)))
]

-- over a variable: the numeral would unfold at a list of known spine
size_third : (m : List ℕ) → 7 ≤ length m → zero_bits (take 7 m) ≡ 0 → 134 ≤ lead m → 7 * length (canon (drop 134 m)) ≤ 8 * length (drop 134 m) + 6 → 7 * length (canon m) ≤ 8 * length m + 6
size_third m long none deep more =
    omega (
      arith,
      ap length (first_third m long none deep),
      length-append (third_form (take 134 m)) (canon (drop 134 m)),
      length-append (take 134 m) (255 ∷ []),
      length-take-le 134 m (omega (arith, lead_within m, deep)),
      lead_within m,
      length-drop 134 m,
      more,
    )

size_within : (most : ℕ) (m : List ℕ) → length m ≤ most → 7 * length (canon m) ≤ 8 * length m + 6
size_within most [] short = omega (arith, ap length canon-nil)
size_within zero (x ∷ xs) short = absurd (omega arith)
size_within (suc most) (x ∷ xs) short =
    let m : List ℕ = x ∷ xs in
    elim (cases_lt (length m) 7) [
      | inl brief ↦ omega (arith, ap length (canon_short x xs (omega (arith, brief))), length-append (nonzero (padded m)) (zero_bits (padded m) ∷ []), ap length (nonzero-padded m), length-nonzero m)
      | inr long ↦ elim (cases_lt 0 (zero_bits (take 7 m))) [
        | inl some ↦
            let seven = take 7 m in
            omega (
              arith,
              ap length (first_few m long some),
              length-append (first_form seven) (canon (drop 7 m)),
              length-append (nonzero seven) (zero_bits seven ∷ []),
              length-take-le 7 m long,
              fewer_stored seven some,
              length-drop 7 m,
              size_within most (drop 7 m) (omega (arith, length-drop 7 m, short)),
            )
        | inr none ↦
            let no_zero : zero_bits (take 7 m) ≡ 0 = omega arith in
            let far = lead_long m 7 long no_zero in
            elim (cases_lt (lead m) 134) [
              | inl near ↦
                  let front = take (lead m) m in
                  elim (cases_lt (lead m) (length m)) [
                    | inl inside ↦ omega (
                      arith,
                      ap length (first_second m long no_zero near),
                      length-append (second_form front) (canon (drop (lead m + 1) m)),
                      length-append front ((length front + 121) ∷ []),
                      length-take-le (lead m) m (lead_within m),
                      length-drop (lead m + 1) m,
                      size_within most (drop (lead m + 1) m) (omega (arith, length-drop (lead m + 1) m, short)),
                    )
                    | inr outside ↦ omega (
                      arith,
                      ap length (first_second m long no_zero near),
                      length-append (second_form front) (canon (drop (lead m + 1) m)),
                      length-append front ((length front + 121) ∷ []),
                      length-take-le (lead m) m (lead_within m),
                      lead_within m,
                      far,
                      outside,
                      ap (λ (l : List ℕ). length (canon l)) (drop_all (lead m + 1) m (omega arith)),
                      ap length canon-nil,
                    )
                  ]
              | inr deep ↦ size_third m long no_zero deep (size_within most (drop 134 m) (omega (arith, length-drop 134 m, short)))
            ]
      ]
    ]

pub code_size : (m : List ℕ) → length (canon m) ≤ length m + (length m + 6) / 7
code_size m = omega (arith, size_within (length m) m (omega arith))
