-- What is read from the end of a code is what its blocks stand for.
use Rattle.std.proofs.Common.{◌≡◌, ◌≢◌, inl, inr, ℕ, zero, suc, true, false, ◌+◌, ◌-◌, ◌/◌, ◌%◌, ◌^◌, ◌==◌, ◌<◌, ◌≤◌, cond, List, [], ◌∷◌, ◌++◌, length, get_or, take, drop, Option, Some, None, option_map, refl, sym, ◌∙◌, ap, subst, arith, length-append, length-drop, append_assoc}
use Rattle.std.specs.Prelude.{nat_lt}
use Rattle.std.specs.List.{list_any}
use Rattle.std.proofs.lemmas.Bool.{cases_Bool, cases_eq, cases_lt, cond-true, cond-false, eqb-true, eqb-false, eq-eqb, ne_eqb, ltb-true, lt-ltb, false_from_ne_true, or_cases, or_parts, true≢false}
use Rattle.std.proofs.lemmas.List.{append-nil, nil_from_length, take-append-drop}
use Rattle.std.proofs.Math.Nat.{pow-succ'}
use Rattle.rzcobs_core.specs.Blocks.{zero_bits, nonzero, IsBlock, few, zero_after, none_zero, Blocks, end, block, IsNoCode}
use Rattle.rzcobs_core.specs.Reading.{clear_bits, EndsInNoBlock}
use Rattle.rzcobs_core.proofs.Bits.{nonzero-zero, nonzero-other, zero_bits-zero, zero_bits-other}
use Rattle.rzcobs_core.proofs.OneReading.{last_of, same_ends, small_code}
use Rattle.rzcobs_core.proofs.Backwards.{NoZero, NoZero-cons, NoZero-left, NoZero-right, zero_no_code, clear_bits-none, clear_bits-more, no_few, no_zero_after, no_none_zero, front_has}
use Rattle.defmt_framing.specs.Decoded.{front_bytes, last_byte, stored_in, first_and, spread, bytes_in, last_block, blocks_by, decoded_by, decoded}

-- what is told of a code: the bytes that its blocks stand for, or that it is none
abbrev pub IsTold : List ℕ → Option (List ℕ) → Type 0
IsTold code (Some bytes) = Blocks code bytes
IsTold code None = IsNoCode code

-- ---- zeros

some_zero : (xs : List ℕ) → list_any (λ b. b == 0) xs ≡ true → (k : ℕ) × (k < length xs) × (get_or xs k 0 ≡ 0)
some_zero [] e = absurd (true≢false (sym e))
some_zero (x ∷ xs) e = elim (or_cases (x == 0) (list_any (λ b. b == 0) xs) e) [
  | inl here ↦ (0, omega arith, eqb-true x 0 here)
  | inr more ↦ let s = some_zero xs more in (suc s.0, omega (arith, s.1), s.2)
]

no_zero : (xs : List ℕ) → list_any (λ b. b == 0) xs ≡ false → NoZero xs
no_zero [] e = λ k d h. absurd (omega arith)
no_zero (x ∷ xs) e = let p = or_parts (x == 0) (list_any (λ b. b == 0) xs) e in NoZero-cons x xs (eqb-false x 0 p.0) (no_zero xs p.1)

-- ---- the bytes of the first form

-- these bytes have zeros where the bits are set, and the stored ones elsewhere
record IsSpread (n code : ℕ) (stored bytes : List ℕ) : Type 0 where
  size : length bytes ≡ n
  mask : zero_bits bytes ≡ code
  kept : nonzero bytes ≡ stored

spread_zero : (n code : ℕ) (stored : List ℕ) → code % 2 ≡ 1 → spread (suc n) code stored ≡ 0 ∷ spread n (code / 2) stored
unfolding spread
spread_zero n code stored odd = cond-true (code % 2 == 1) (0 ∷ spread n (code / 2) stored) (first_and (λ more. spread n (code / 2) more) stored) (eq-eqb (code % 2) 1 odd)

spread_first : (n code x : ℕ) (rest : List ℕ) → code % 2 ≢ 1 → spread (suc n) code (x ∷ rest) ≡ x ∷ spread n (code / 2) rest
unfolding spread
spread_first n code x rest even = cond-false (code % 2 == 1) (0 ∷ spread n (code / 2) (x ∷ rest)) (x ∷ spread n (code / 2) rest) (ne_eqb (code % 2) 1 even)

behind_zero : (n code : ℕ) (stored bytes : List ℕ) → code % 2 ≡ 1 → IsSpread n (code / 2) stored bytes → IsSpread (suc n) code stored (0 ∷ bytes)
behind_zero n code stored bytes odd s = record {
  size = omega (arith, s.size);
  mask = omega (arith, s.mask, zero_bits-zero 0 bytes refl);
  kept = nonzero-zero 0 bytes refl ∙ s.kept;
}

behind_first : (n code x : ℕ) (rest bytes : List ℕ) → code % 2 ≢ 1 → x ≢ 0 → IsSpread n (code / 2) rest bytes → IsSpread (suc n) code (x ∷ rest) (x ∷ bytes)
behind_first n code x rest bytes even not s = record {
  size = omega (arith, s.size);
  mask = omega (arith, s.mask, zero_bits-other x bytes not);
  kept = nonzero-other x bytes not ∙ ap (λ (l : List ℕ). x ∷ l) s.kept;
}

spread_none : (code : ℕ) (stored : List ℕ) → code < 1 → length stored ≡ 0 → IsSpread 0 code stored (spread 0 code stored)
unfolding spread
spread_none code stored small none = record { size = refl; mask = omega arith; kept = sym (nil_from_length stored none) }

with_first : (n code : ℕ) (stored : List ℕ) → code % 2 ≢ 1 → length stored ≡ suc (clear_bits n (code / 2)) → NoZero stored
    → ((rest : List ℕ) → length rest ≡ clear_bits n (code / 2) → NoZero rest → IsSpread n (code / 2) rest (spread n (code / 2) rest))
    → IsSpread (suc n) code stored (spread (suc n) code stored)
with_first n code [] even count non more = absurd (omega (arith, count))
with_first n code (x ∷ rest) even count non more =
    subst (IsSpread (suc n) code (x ∷ rest)) (sym (spread_first n code x rest even))
    (behind_first n code x rest (spread n (code / 2) rest) even (non 0 0 (omega arith)) (more rest (omega (arith, count)) (λ k d h. non (suc k) d (omega arith))))

spreads : (n code : ℕ) (stored : List ℕ) → code < 2 ^ n → length stored ≡ clear_bits n code → NoZero stored → IsSpread n code stored (spread n code stored)
spreads zero code stored small count non = spread_none code stored small (count ∙ clear_bits-none code)
spreads (suc n) code stored small count non =
    let half : code / 2 < 2 ^ n = omega (arith, pow-succ' 2 n) in
    elim (cases_eq (code % 2) 1) [
      | inl odd ↦
          subst (IsSpread (suc n) code stored) (sym (spread_zero n code stored odd))
          (behind_zero n code stored (spread n (code / 2) stored) odd (spreads n (code / 2) stored half (count ∙ (clear_bits-more n code).0 odd) non))
      | inr even ↦ with_first n code stored even (count ∙ (clear_bits-more n code).1 even) non (λ rest size rest_non. spreads n (code / 2) rest half size rest_non)
    ]

-- ---- blocks by their code bytes

is_few : (code : ℕ) (stored : List ℕ) → code < 128 → code ≢ 0 → length stored ≡ clear_bits 7 code → NoZero stored → IsBlock (stored ++ code ∷ []) (spread 7 code stored)
is_few code stored small some count non =
    let bytes = spread 7 code stored in
    let s = spreads 7 code stored small count non in
    subst (λ (l : List ℕ). IsBlock (l ++ code ∷ []) bytes) s.kept
    (subst (λ (n : ℕ). IsBlock (nonzero bytes ++ n ∷ []) bytes) s.mask (few bytes s.size (omega (arith, s.mask))))

is_zero_after : (code : ℕ) (stored : List ℕ) → 128 ≤ code → code < 255 → length stored ≡ code - 121 → NoZero stored → IsBlock (stored ++ code ∷ []) (stored ++ 0 ∷ [])
is_zero_after code stored large below size non =
    let mark : length stored + 121 ≡ code = omega (arith, size) in
    subst (λ (n : ℕ). IsBlock (stored ++ n ∷ []) (stored ++ 0 ∷ [])) mark (zero_after stored non (omega (arith, size)) (omega (arith, size)))

is_none_zero : (code : ℕ) (stored : List ℕ) → code ≡ 255 → length stored ≡ 134 → NoZero stored → IsBlock (stored ++ code ∷ []) stored
is_none_zero code stored top size non = subst (λ (n : ℕ). IsBlock (stored ++ n ∷ []) stored) (sym top) (none_zero stored non size)

not_below : (a b : ℕ) → b ≤ a → nat_lt a b ≡ false
not_below a b le = false_from_ne_true (nat_lt a b) (λ e. absurd (omega (arith, ltb-true a b e)))

-- the stored bytes of each form
stored_few : (code : ℕ) → code < 128 → stored_in code ≡ clear_bits 7 code
stored_few code small = cond-true (nat_lt code 128) (clear_bits 7 code) (cond (nat_lt code 255) (code - 121) 134) (lt-ltb code 128 small)

stored_zero : (code : ℕ) → 128 ≤ code → code < 255 → stored_in code ≡ code - 121
stored_zero code large below =
    cond-false (nat_lt code 128) (clear_bits 7 code) (cond (nat_lt code 255) (code - 121) 134) (not_below code 128 large)
    ∙ cond-true (nat_lt code 255) (code - 121) 134 (lt-ltb code 255 below)

stored_none : (code : ℕ) → 255 ≤ code → stored_in code ≡ 134
stored_none code top =
    cond-false (nat_lt code 128) (clear_bits 7 code) (cond (nat_lt code 255) (code - 121) 134) (not_below code 128 (omega arith))
    ∙ cond-false (nat_lt code 255) (code - 121) 134 (not_below code 255 top)

-- what each form stands for
bytes_few : (code : ℕ) (stored : List ℕ) → code < 128 → bytes_in code stored ≡ spread 7 code stored
bytes_few code stored small = cond-true (nat_lt code 128) (spread 7 code stored) (cond (nat_lt code 255) (stored ++ 0 ∷ []) stored) (lt-ltb code 128 small)

bytes_zero : (code : ℕ) (stored : List ℕ) → 128 ≤ code → code < 255 → bytes_in code stored ≡ stored ++ 0 ∷ []
bytes_zero code stored large below =
    cond-false (nat_lt code 128) (spread 7 code stored) (cond (nat_lt code 255) (stored ++ 0 ∷ []) stored) (not_below code 128 large)
    ∙ cond-true (nat_lt code 255) (stored ++ 0 ∷ []) stored (lt-ltb code 255 below)

bytes_none : (code : ℕ) (stored : List ℕ) → 255 ≤ code → bytes_in code stored ≡ stored
bytes_none code stored top =
    cond-false (nat_lt code 128) (spread 7 code stored) (cond (nat_lt code 255) (stored ++ 0 ∷ []) stored) (not_below code 128 (omega arith))
    ∙ cond-false (nat_lt code 255) (stored ++ 0 ∷ []) stored (not_below code 255 top)

-- with as many stored bytes as it asks for, a code byte ends a block
is_block : (code : ℕ) (stored : List ℕ) → code ≢ 0 → code ≤ 255 → length stored ≡ stored_in code → NoZero stored → IsBlock (stored ++ code ∷ []) (bytes_in code stored)
is_block code stored some byte size non = elim (cases_lt code 128) [
  | inl small ↦ subst (IsBlock (stored ++ code ∷ [])) (sym (bytes_few code stored small)) (is_few code stored small some (size ∙ stored_few code small) non)
  | inr large ↦ elim (cases_lt code 255) [
    | inl below ↦ subst (IsBlock (stored ++ code ∷ [])) (sym (bytes_zero code stored large below)) (is_zero_after code stored large below (size ∙ stored_zero code large below) non)
    | inr top ↦ subst (IsBlock (stored ++ code ∷ [])) (sym (bytes_none code stored top)) (is_none_zero code stored (omega arith) (size ∙ stored_none code top) non)
  ]
]

-- with fewer it ends none
too_few : (before : List ℕ) (code : ℕ) → code ≤ 255 → length before < stored_in code → EndsInNoBlock (before ++ code ∷ [])
too_few before code byte short = elim (cases_lt code 128) [
  | inl small ↦ no_few before code small (omega (arith, short, stored_few code small))
  | inr large ↦ elim (cases_lt code 255) [
    | inl below ↦ no_zero_after before code large below (omega (arith, short, stored_zero code large below))
    | inr top ↦
        let is : code ≡ 255 = omega arith in
        subst (λ (n : ℕ). EndsInNoBlock (before ++ n ∷ [])) (sym is) (no_none_zero before (omega (arith, short, stored_none code top)))
  ]
]

too_far : (before front last bytes : List ℕ) (code : ℕ) → 256 ≤ code → IsBlock last bytes → before ++ code ∷ [] ≡ front ++ last → ⊥
too_far before front _ _ code far (few s all some) same =
    let e = same_ends before (front ++ nonzero s) code (zero_bits s) (same ∙ sym (append_assoc front (nonzero s) (zero_bits s ∷ []))) in
    absurd (omega (arith, e.1, small_code s all))
too_far before front _ _ code far (zero_after ys non least most) same =
    let e = same_ends before (front ++ ys) code (length ys + 121) (same ∙ sym (append_assoc front ys ((length ys + 121) ∷ []))) in
    absurd (omega (arith, e.1))
too_far before front _ _ code far (none_zero ys non size) same =
    let e = same_ends before (front ++ ys) code 255 (same ∙ sym (append_assoc front ys (255 ∷ []))) in
    absurd (omega (arith, e.1))

-- a list that isn't empty and ends in no block is no code
no_last : (before : List ℕ) (code : ℕ) → EndsInNoBlock (before ++ code ∷ []) → IsNoCode (before ++ code ∷ [])
no_last before code none bytes blocks = elim (last_of (before ++ code ∷ []) bytes blocks) [
  | inl empty ↦ absurd (omega (arith, ap length empty.0, length-append before (code ∷ [])))
  | inr l ↦ none l.front l.last l.last_bytes l.is l.code_is
]

-- ---- the whole code

Blocks-then : (f fb last lb : List ℕ) → Blocks f fb → IsBlock last lb → Blocks (f ++ last) (fb ++ lb)
Blocks-then _ _ last lb end is = subst (λ (l : List ℕ). Blocks l lb) (append-nil last) (subst (λ (l : List ℕ). Blocks (last ++ []) l) (append-nil lb) (block last lb [] [] is end))
Blocks-then _ _ last lb (block code bytes codes rest first more) is =
    subst (λ (l : List ℕ). Blocks l ((bytes ++ rest) ++ lb)) (sym (append_assoc code codes last))
    (subst (λ (l : List ℕ). Blocks (code ++ (codes ++ last)) l) (sym (append_assoc bytes rest lb)) (block code bytes (codes ++ last) (rest ++ lb) first (Blocks-then codes rest last lb more is)))

-- what is told of the front and the last block is told of both
then_told : (front last bytes : List ℕ) (o : Option (List ℕ)) → IsBlock last bytes → IsTold front o → IsTold (front ++ last) (option_map (λ more. more ++ bytes) o)
then_told front last bytes (Some more) is blocks = Blocks-then front more last bytes blocks is
then_told front last bytes None is none = λ whole blocks. let f = front_has front last bytes whole is blocks in none f.0 f.1

-- the last block has its stored bytes behind the first k
last_told : (more : List ℕ → Option (List ℕ)) (before : List ℕ) (code k : ℕ) → k ≤ length before → length before - k ≡ stored_in code → code ≢ 0 → code ≤ 255 → NoZero before
    → IsTold (take k before) (more (take k before)) → IsTold (before ++ code ∷ []) (last_block more before code k)
last_told more before code k within size some byte non front =
    let parts : take k before ++ drop k before ≡ before = take-append-drop k before in
    let kept : NoZero (drop k before) = NoZero-right (take k before) (drop k before) (subst NoZero (sym parts) non) in
    let is = is_block code (drop k before) some byte (length-drop k before ∙ size) kept in
    let whole : take k before ++ (drop k before ++ code ∷ []) ≡ before ++ code ∷ [] =
    sym (append_assoc (take k before) (drop k before) (code ∷ [])) ∙ ap (λ (l : List ℕ). l ++ code ∷ []) parts in
    subst (λ (l : List ℕ). IsTold l (last_block more before code k)) whole
    (then_told (take k before) (drop k before ++ code ∷ []) (bytes_in code (drop k before)) (more (take k before)) is front)

blocks_told : (more : List ℕ → Option (List ℕ)) (before : List ℕ) (code : ℕ) → code ≢ 0 → NoZero before
    → ((front : List ℕ) → length front ≤ length before → NoZero front → IsTold front (more front)) → IsTold (before ++ code ∷ []) (blocks_by more before code)
blocks_told more before code some non each =
    let k = length before - stored_in code in
    let last = last_block more before code k in
    let inner = cond (nat_lt (length before) (stored_in code)) None last in
    elim (cases_lt 255 code) [
      | inl far ↦
          subst (IsTold (before ++ code ∷ [])) (sym (cond-true (nat_lt 255 code) None inner (lt-ltb 255 code far)))
          (no_last before code (λ front last_code bytes is same. too_far before front last_code bytes code (omega arith) is same))
      | inr byte ↦
          subst (IsTold (before ++ code ∷ [])) (sym (cond-false (nat_lt 255 code) None inner (not_below 255 code byte)))
          (elim (cases_lt (length before) (stored_in code)) [
            | inl short ↦
                subst (IsTold (before ++ code ∷ [])) (sym (cond-true (nat_lt (length before) (stored_in code)) None last (lt-ltb (length before) (stored_in code) short)))
                (no_last before code (too_few before code byte short))
            | inr enough ↦
                let parts : take k before ++ drop k before ≡ before = take-append-drop k before in
                let front_non : NoZero (take k before) = NoZero-left (take k before) (drop k before) (subst NoZero (sym parts) non) in
                let front_size : length (take k before) ≤ length before = omega (arith, ap length parts, length-append (take k before) (drop k before)) in
                subst (IsTold (before ++ code ∷ [])) (sym (cond-false (nat_lt (length before) (stored_in code)) None last (not_below (length before) (stored_in code) enough)))
                (last_told more before code k (omega arith) (omega arith) some byte non (each (take k before) front_size front_non))
          ])
    ]

ends_are : (x : ℕ) (xs : List ℕ) → x ∷ xs ≡ front_bytes x xs ++ last_byte x xs ∷ []
ends_are x [] = refl
ends_are x (y ∷ ys) = ap (λ (l : List ℕ). x ∷ l) (ends_are y ys)

told_within : (most : ℕ) (code : List ℕ) → length code ≤ most → NoZero code → IsTold code (decoded_by most code)
unfolding decoded_by
told_within most [] short non = end
told_within zero (x ∷ xs) short non = absurd (omega arith)
told_within (suc most) (x ∷ xs) short non =
    let before = front_bytes x xs in
    let code = last_byte x xs in
    let e : x ∷ xs ≡ before ++ code ∷ [] = ends_are x xs in
    let all = subst NoZero e non in
    let some : code ≢ 0 = NoZero-right before (code ∷ []) all 0 0 (omega arith) in
    let size : suc (length xs) ≡ length before + 1 = ap length e ∙ length-append before (code ∷ []) in
    subst (λ (l : List ℕ). IsTold l (blocks_by (λ front. decoded_by most front) before code)) (sym e)
    (blocks_told (λ front. decoded_by most front) before code some (NoZero-left before (code ∷ []) all)
    (λ front less front_non. told_within most front (omega (arith, less, size, short)) front_non))

-- the function tells what the blocks stand for
pub told : (code : List ℕ) → IsTold code (decoded code)
unfolding decoded
told code = elim (cases_Bool (list_any (λ b. b == 0) code)) [
  | inl zeros ↦
      let z = some_zero code zeros in
      subst (IsTold code) (sym (cond-true (list_any (λ b. b == 0) code) None (decoded_by (length code) code) zeros))
      (λ bytes blocks. zero_no_code code bytes z.0 z.1 z.2 blocks)
  | inr none ↦
      subst (IsTold code) (sym (cond-false (list_any (λ b. b == 0) code) None (decoded_by (length code) code) none))
      (told_within (length code) code (omega arith) (no_zero code none))
]
