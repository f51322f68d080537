-- Seven bytes put by one look at a table of places.
use Rattle.std.proofs.Common.{◌≡◌, ◌≢◌, inl, inr, ℕ, zero, suc, ◌+◌, ◌-◌, ◌*◌, ◌/◌, ◌%◌, ◌^◌, ◌<◌, ◌≤◌, ◌==◌, Bool, true, cond, ◌&&◌, ◌||◌, ltb, T, List, [], ◌∷◌, ◌++◌, map, length, get_or, take, drop, replicate, refl, sym, ◌∙◌, ap, subst, arith, append_assoc, length-append, add-zero, add-one, w8}
use Rattle.std.proofs.Math.Nat.{pow-succ'}
use Rattle.std.proofs.Math.Seq.{take-add}
use Rattle.std.proofs.lemmas.Bool.{agree_below_at, cases_eq, cases_lt, cond-true, cond-false, eq-eqb, ne_eqb, lt-leb}
use Rattle.std.proofs.lemmas.List.{take_more, take_all, take_at, take-take, length-take-le, length-drop, get_or-take, get_or-drop, drop_at, drop-drop}
use Rattle.std.proofs.lemmas.List.FromFn.{get_or-map-range_with_len}
use Rattle.std.proofs.lemmas.Simd.{swz_l, SwzOk, SwzOk-from_Each1, put_chunk_is}
use Rattle.std.specs.List.{range_with_len}
use lib.Ieee.Fits.{and_l, and_r}
use lib.Lanes.{chunk, put_chunk, Each1}
use mir.Val.{zeroes}
use Rattle.rzcobs_core.specs.Blocks.{zero_bits, nonzero}
use Rattle.rzcobs_core.specs.Reading.{clear_bits, spread, EndsInNoBlock, ReadsLast}
use Rattle.rzcobs_core.specs.declared.spreads.TheConstants.{SPREADS}
use Rattle.rzcobs_core.proofs.Backwards.{NoZero, Decodes, clear_bits-more, reads_few, no_few, nothing_read, goes_on, shorter}
use Rattle.rzcobs_core.proofs.Bits.{nonzero-zero, nonzero-other, zero_bits-zero, zero_bits-other}

-- what is put

spread-set : (n code : ℕ) (xs : List ℕ) → code % 2 ≡ 1 → spread (suc n) code xs ≡ 0 ∷ spread n (code / 2) xs
unfolding spread
spread-set n code xs odd = cond-true _ _ _ (eq-eqb _ _ odd)

spread-clear : (n code : ℕ) (xs : List ℕ) → code % 2 ≢ 1 → spread (suc n) code xs ≡ get_or xs 0 0 ∷ spread n (code / 2) (drop 1 xs)
unfolding spread
spread-clear n code xs even = cond-false _ _ _ (ne_eqb _ _ even)

pub length-spread : (n code : ℕ) (xs : List ℕ) → length (spread n code xs) ≡ n
unfolding spread
length-spread zero code xs = refl
length-spread (suc n) code xs = elim (cases_eq (code % 2) 1) [
  | inl odd ↦ ap length (spread-set n code xs odd) ∙ ap suc (length-spread n (code / 2) xs)
  | inr even ↦ ap length (spread-clear n code xs even) ∙ ap suc (length-spread n (code / 2) (drop 1 xs))
]

NoZero-rest : (x : ℕ) (xs : List ℕ) → NoZero (x ∷ xs) → NoZero xs
NoZero-rest x xs all k d within = all (suc k) d (omega arith)

-- the bytes have the code byte and the stored bytes of their block
abbrev IsSpread : ℕ → ℕ → List ℕ → Type 0
IsSpread n code xs = (zero_bits (spread n code xs) ≡ code) × (nonzero (spread n code xs) ≡ take (clear_bits n code) xs)

-- where the lowest bit is clear
spread_other : (n code x : ℕ) (xs : List ℕ) → code % 2 ≢ 1 → x ≢ 0 → IsSpread n (code / 2) xs → IsSpread (suc n) code (x ∷ xs)
spread_other n code x xs even not more =
    let bits = ap zero_bits (spread-clear n code (x ∷ xs) even) ∙ zero_bits-other x (spread n (code / 2) xs) not in (
      omega (arith, bits, more.0),
      ap nonzero (spread-clear n code (x ∷ xs) even) ∙ nonzero-other x (spread n (code / 2) xs) not ∙ ap (λ (l : List ℕ). x ∷ l) more.1
          ∙ ap (λ (k : ℕ). take k (x ∷ xs)) (sym ((clear_bits-more n code).1 even)),
    )

spread_zero : (n code : ℕ) (xs : List ℕ) → code % 2 ≡ 1 → IsSpread n (code / 2) xs → IsSpread (suc n) code xs
spread_zero n code xs odd more =
    let bits = ap zero_bits (spread-set n code xs odd) ∙ zero_bits-zero 0 (spread n (code / 2) xs) refl in (
      omega (arith, bits, more.0),
      ap nonzero (spread-set n code xs odd) ∙ nonzero-zero 0 (spread n (code / 2) xs) refl ∙ more.1 ∙ ap (λ (k : ℕ). take k xs) (sym ((clear_bits-more n code).0 odd)),
    )

pub spread_is : (n code : ℕ) (xs : List ℕ) → code < 2 ^ n → clear_bits n code ≤ length xs → NoZero (take (clear_bits n code) xs) → IsSpread n code xs
unfolding clear_bits spread
spread_is zero code xs small room non = (omega arith, refl)
spread_is (suc n) code [] small room non = elim (cases_eq (code % 2) 1) [
  | inl odd ↦
      let count = (clear_bits-more n code).0 odd in
      spread_zero n code [] odd (spread_is n (code / 2) [] (omega (arith, pow-succ' 2 n)) (omega (arith, count, room)) (subst (λ (k : ℕ). NoZero (take k [])) count non))
  | inr even ↦ absurd (omega (arith, (clear_bits-more n code).1 even, room))
]
spread_is (suc n) code (x ∷ xs) small room non = elim (cases_eq (code % 2) 1) [
  | inl odd ↦
      let count = (clear_bits-more n code).0 odd in
      spread_zero n code (x ∷ xs) odd (spread_is n (code / 2) (x ∷ xs) (omega (arith, pow-succ' 2 n)) (omega (arith, count, room)) (subst (λ (k : ℕ). NoZero (take k (x ∷ xs))) count non))
  | inr even ↦
      let count = (clear_bits-more n code).1 even in
      let all : NoZero (x ∷ take (clear_bits n (code / 2)) xs) = subst (λ (k : ℕ). NoZero (take k (x ∷ xs))) count non in
      spread_other n code x xs even (all 0 0 (omega arith)) (spread_is n (code / 2) xs (omega (arith, pow-succ' 2 n)) (omega (arith, count, room)) (NoZero-rest x _ all))
]

-- the table

-- the places of n bytes, where the first that is stored is the k-th
places : ℕ → ℕ → ℕ → List ℕ
places zero code k = []
places (suc n) code k = cond (code % 2 == 1) (128 ∷ places n (code / 2) k) (k ∷ places n (code / 2) (suc k))

pub row : ℕ → List ℕ
row code = replicate 9 128 ++ places 7 code 0

rows_are : SPREADS ≡ map row (range_with_len 0 128)
unfolding row places
rows_are = refl

pub row_is : (code : ℕ) (none : List ℕ) → code < 128 → get_or SPREADS code none ≡ row code
row_is code none small = ap (λ (l : List (List ℕ)). get_or l code none) rows_are ∙ get_or-map-range_with_len row 0 128 code code none small (omega arith)

-- each place is one of sixteen, or tells a zero
all_fine : List ℕ → Bool
all_fine [] = true
all_fine (j ∷ js) = (zeroes 16 w8 j || ltb j 16) && all_fine js

each_fine : (js : List ℕ) → T (all_fine js) → Each1 (λ j. T (zeroes 16 w8 j || ltb j 16)) js
unfolding all_fine
each_fine [] h = tt
each_fine (j ∷ js) h = (and_l (zeroes 16 w8 j || ltb j 16) _ h, each_fine js (and_r (zeroes 16 w8 j || ltb j 16) _ h))

length-places : (n code k : ℕ) → length (places n code k) ≡ n
unfolding places
length-places zero code k = refl
length-places (suc n) code k = elim (cases_eq (code % 2) 1) [
  | inl odd ↦ ap length (cond-true _ _ _ (eq-eqb _ _ odd)) ∙ ap suc (length-places n (code / 2) k)
  | inr even ↦ ap length (cond-false _ _ _ (ne_eqb _ _ even)) ∙ ap suc (length-places n (code / 2) (suc k))
]

length-row : (code : ℕ) → length (row code) ≡ 16
unfolding row
length-row code = length-append (replicate 9 128) (places 7 code 0) ∙ ap (λ (n : ℕ). 9 + n) (length-places 7 code 0)

row_fine : (code : ℕ) → code < 128 → SwzOk w8 16 16 0 (row code)
unfolding all_fine row places
row_fine code small =
    let all : all_fine (row code) ≡ true = agree_below_at (λ k. all_fine (row k)) (λ _. true) 128 code refl small in
    SwzOk-from_Each1 w8 16 1 16 0 (row code) refl (omega (arith, length-row code)) (each_fine (row code) (subst T (sym all) tt))

swz-places : (n code k i : ℕ) (xs : List ℕ) → k ≤ i → i + n ≤ 16 → swz_l w8 16 xs i (places n code k) ≡ spread n code (drop k xs)
unfolding spread places
swz-places zero code k i xs le room = refl
swz-places (suc n) code k i xs le room = elim (cases_eq (code % 2) 1) [
  | inl odd ↦
      ap (swz_l w8 16 xs i) (cond-true _ _ _ (eq-eqb _ _ odd))
      ∙ ap (λ (l : List ℕ). 0 ∷ l) (swz-places n (code / 2) k (suc i) xs (omega arith) (omega arith))
      ∙ sym (spread-set n code (drop k xs) odd)
  | inr even ↦
      let here : 16 * (i / 16) + k ≡ k = omega arith in
      let first : get_or xs k 0 ≡ get_or (drop k xs) 0 0 = ap (λ (m : ℕ). get_or xs m 0) (sym (add-zero k)) ∙ sym (get_or-drop k xs 0 0) in
      let more : drop (suc k) xs ≡ drop 1 (drop k xs) = ap (λ (m : ℕ). drop m xs) (sym (add-one k)) ∙ sym (drop-drop 1 k xs) in
      ap (swz_l w8 16 xs i) (cond-false _ _ _ (ne_eqb _ _ even))
      ∙ ap (λ (b : Bool). cond b 0 (get_or xs (16 * (i / 16) + k) 0) ∷ swz_l w8 16 xs (suc i) (places n (code / 2) (suc k))) (lt-leb 128 k (omega arith))
      ∙ ap (λ (m : ℕ). get_or xs m 0 ∷ swz_l w8 16 xs (suc i) (places n (code / 2) (suc k))) here
      ∙ ap (λ (x : ℕ). x ∷ swz_l w8 16 xs (suc i) (places n (code / 2) (suc k))) first
      ∙ ap (λ (l : List ℕ). get_or (drop k xs) 0 0 ∷ l) (swz-places n (code / 2) (suc k) (suc i) xs (omega arith) (omega arith) ∙ ap (spread n (code / 2)) more)
      ∙ sym (spread-clear n code (drop k xs) even)
]

-- what is looked up
sixteen_are : (code : ℕ) (xs : List ℕ) → swz_l w8 16 xs 0 (row code) ≡ replicate 9 0 ++ spread 7 code xs
unfolding row
sixteen_are code xs = ap (λ (l : List ℕ). replicate 9 0 ++ l) (swz-places 7 code 0 9 xs (omega arith) (omega arith))

pub whole_row : (code : ℕ) (none : List ℕ) → code < 128 → chunk 0 16 (get_or SPREADS code none) ≡ row code
whole_row code none small = ap (chunk 0 16) (row_is code none small) ∙ take_all 16 (row code) (omega (arith, length-row code))

pub swizzle_fine : (code : ℕ) (none : List ℕ) → code < 128 → SwzOk w8 16 16 0 (chunk 0 16 (get_or SPREADS code none))
swizzle_fine code none small = subst (SwzOk w8 16 16 0) (sym (whole_row code none small)) (row_fine code small)

-- The seven bytes are put in front of a place, and zeros in front of them.
pub spread_put : (code at : ℕ) (none xs out : List ℕ) → code < 128 → 16 ≤ at → at ≤ length out
    → drop (at - 7) (put_chunk (at - 16) out (swz_l w8 16 xs 0 (chunk 0 16 (get_or SPREADS code none)))) ≡ spread 7 code xs ++ drop at out
spread_put code at none xs out small room within =
    let lanes = swz_l w8 16 xs 0 (chunk 0 16 (get_or SPREADS code none)) in
    let seven = spread 7 code xs in
    let is : lanes ≡ replicate 9 0 ++ seven = ap (swz_l w8 16 xs 0) (whole_row code none small) ∙ sixteen_are code xs in
    let size : length lanes ≡ 16 = ap length is ∙ length-append (replicate 9 0) seven ∙ ap (λ (n : ℕ). 9 + n) (length-spread 7 code xs) in
    let front = take (at - 16) out ++ replicate 9 0 in
    let behind : drop (length lanes) (drop (at - 16) out) ≡ drop at out = drop-drop (length lanes) (at - 16) out ∙ ap (λ (n : ℕ). drop n out) (let e : at - 16 + length lanes ≡ at = omega (arith, size) in e) in
    let all : put_chunk (at - 16) out lanes ≡ front ++ (seven ++ drop at out) =
    put_chunk_is (at - 16) out lanes (omega (arith, size)) ∙ ap (λ (l : List ℕ). take (at - 16) out ++ (l ++ drop (length lanes) (drop (at - 16) out))) is
    ∙ ap (λ (l : List ℕ). take (at - 16) out ++ (replicate 9 0 ++ (seven ++ l))) behind ∙ sym (append_assoc (take (at - 16) out) (replicate 9 0) (seven ++ drop at out)) in
    ap (drop (at - 7)) all ∙ drop_at front (seven ++ drop at out) (at - 7) (omega (arith, length-append (take (at - 16) out) (replicate 9 0), length-take-le (at - 16) out (omega arith)))

-- the parts of the bytes

NoZero-part : (bytes : List ℕ) (rest front count : ℕ) → front + count ≤ rest → rest ≤ length bytes → NoZero (take rest bytes) → NoZero (take count (drop front bytes))
NoZero-part bytes rest front count within long non k d h =
    let short : k < count = omega (arith, length-take-le count (drop front bytes) (omega (arith, length-drop front bytes))) in
    let whole = get_or-take rest bytes (front + k) d (omega arith) in
    let part = get_or-take count (drop front bytes) k d short ∙ get_or-drop front bytes k d in
    subst (λ (n : ℕ). n ≢ 0) (whole ∙ sym part) (non (front + k) d (omega (arith, length-take-le rest bytes long)))

last_of_front : (bytes : List ℕ) (rest code : ℕ) → 0 < rest → rest ≤ length bytes → get_or bytes (rest - 1) 0 ≡ code → take rest bytes ≡ take (rest - 1) bytes ++ code ∷ []
last_of_front bytes rest code some long is =
    ap (λ (n : ℕ). take n bytes) (let e : rest ≡ rest - 1 + 1 = omega arith in e) ∙ take_more bytes (rest - 1) 0 (omega arith) ∙ ap (λ (b : ℕ). take (rest - 1) bytes ++ b ∷ []) is

pub no_few_of : (bytes : List ℕ) (rest code : ℕ) → 0 < rest → rest ≤ length bytes → get_or bytes (rest - 1) 0 ≡ code → code < 128 → rest - 1 < clear_bits 7 code → EndsInNoBlock (take rest bytes)
no_few_of bytes rest code some long is small short =
    subst EndsInNoBlock (sym (last_of_front bytes rest code some long is)) (no_few (take (rest - 1) bytes) code small (omega (arith, length-take-le (rest - 1) bytes (omega arith))))

pub reads_spread : (bytes out after : List ℕ) (rest code front at : ℕ) → 0 < rest → rest + 16 ≤ length bytes → NoZero (take rest bytes) → get_or bytes (rest - 1) 0 ≡ code → code < 128
    → front + clear_bits 7 code ≡ rest - 1 → clear_bits 7 code ≤ 7 → 7 ≤ at → drop (at - 7) after ≡ spread 7 code (take 16 (drop front bytes)) ++ drop at out
    → ReadsLast (take rest bytes) out at (take front bytes) after (at - 7)
reads_spread bytes out after rest code front at some room non is small parts few place put =
    let count = clear_bits 7 code in
    let near = take 16 (drop front bytes) in
    let kept = take count (drop front bytes) in
    let long : length near ≡ 16 = length-take-le 16 (drop front bytes) (omega (arith, length-drop front bytes)) in
    let same : take count near ≡ kept = take-take count 16 (drop front bytes) (omega arith) in
    let spreads = spread_is 7 code near small (omega (arith, long)) (subst NoZero (sym same) (NoZero-part bytes rest front count (omega arith) (omega arith) non)) in
    let before : take (rest - 1) bytes ≡ take front bytes ++ kept = ap (λ (n : ℕ). take n bytes) (sym parts) ∙ take-add front count bytes in
    let mark : code ≢ 0 = subst (λ (n : ℕ). n ≢ 0) (get_or-take rest bytes (rest - 1) 0 (omega arith) ∙ is) (non (rest - 1) 0 (omega (arith, length-take-le rest bytes (omega arith)))) in
    subst (λ (l : List ℕ). ReadsLast l out at (take front bytes) after (at - 7)) (sym (last_of_front bytes rest code some (omega arith) is))
    (reads_few (take (rest - 1) bytes) (take front bytes) kept (spread 7 code near) out after code at before (spreads.1 ∙ same) spreads.0 (length-spread 7 code near) (omega (arith, mark)) place put)

pub reads_front : (bytes out front after : List ℕ) (rest at begin : ℕ) → rest ≤ length bytes → ReadsLast (take rest bytes) out at front after begin → ReadsLast (take rest bytes) out at (take (length front) bytes) after begin
reads_front bytes out front after rest at begin long reads =
    let short : length front ≤ rest = omega (arith, ap length reads.code_is, length-append front reads.last, length-take-le rest bytes long) in
    let is : take (length front) bytes ≡ front = sym (take-take (length front) rest bytes short) ∙ ap (take (length front)) reads.code_is ∙ take_at front reads.last (length front) refl in
    subst (λ (l : List ℕ). ReadsLast (take rest bytes) out at l after begin) (sym is) reads

-- the whole of a piece that stands in front

front_less : (bytes : List ℕ) (rest front : ℕ) → rest ≤ length bytes → length (take front bytes) < length (take rest bytes) → front < rest
front_less bytes rest front long less = elim (cases_lt front rest) [
  | inl a ↦ a
  | inr b ↦ elim (cases_lt (length bytes) front) [
    | inl c ↦ absurd (omega (arith, less, long, length-take-le rest bytes long, ap length (take_all front bytes (omega arith))))
    | inr c ↦ absurd (omega (arith, less, length-take-le rest bytes long, length-take-le front bytes (omega arith)))
  ]
]

-- so many bytes are left to read in front, and the buffer has nine bytes more than they want
abbrev pub DecodesFront : List ℕ → ℕ → List ℕ → ℕ → ℕ → Type 0
DecodesFront bytes size out rest at = Decodes (take size bytes) out (take rest bytes) at × (rest ≤ size) × (7 * rest + 9 ≤ at)

pub front_begun : (bytes : List ℕ) (size : ℕ) (out : List ℕ) → size ≤ length bytes → 7 * size + 9 ≤ length out → DecodesFront bytes size out size (length out)
front_begun bytes size out within room = (nothing_read (take size bytes) out (omega (arith, length-take-le size bytes within)), omega arith, room)

pub front_smaller : (bytes out after : List ℕ) (rest at front begin : ℕ) → rest ≤ length bytes → ReadsLast (take rest bytes) out at (take front bytes) after begin → front < rest
front_smaller bytes out after rest at front begin long r = front_less bytes rest front long (shorter (take rest bytes) out (take front bytes) after at begin r)

pub front_goes_on : (bytes : List ℕ) (size : ℕ) (out after : List ℕ) (rest at front begin : ℕ) → size ≤ length bytes → length after ≡ length out → DecodesFront bytes size out rest at
    → ReadsLast (take rest bytes) out at (take front bytes) after begin → DecodesFront bytes size after front begin
front_goes_on bytes size out after rest at front begin within same d r =
    let less = front_smaller bytes out after rest at front begin (omega (arith, d.1, within)) r in (
      goes_on (take size bytes) out (take rest bytes) (take front bytes) after at begin same d.0 r,
      omega (arith, less, d.1),
      omega (arith, r.room, d.2, d.1, less, within, ap length r.code_is, length-append (take front bytes) r.last, length-take-le rest bytes (omega (arith, d.1, within)), length-take-le front bytes (omega (arith, less, d.1, within))),
    )
