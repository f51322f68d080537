-- The texts of dates, clocks and floats are ASCII and short.
use Rattle.std.proofs.Common.{◌<◌, ◌≤◌, ◌+◌, ◌-◌, ◌/◌, ◌%◌, ℕ, zero, suc, Bool, true, false, eqb, List, [], ◌∷◌, ◌++◌, length, take, drop, subst, refl, inl, inr, arith, length-append, nat_lt, nat_le}
use Rattle.std.proofs.lemmas.Bool.{cases_lt}
use Rattle.std.specs.Fmt.{decimal, digit_glyph, digits_onto, digits as std_digits}
use Rattle.std.specs.Float.Ieee.{Format, binary32, binary64, top}
use Rattle.std.specs.Prelude.{codes, if◌then◌else◌}
use Rattle.defmt_dates.specs.Calendar.{date_after}
use Rattle.defmt_dates.specs.Texts.{last_digits, fraction, time_text, day_text, early_text, date_time, date_of_seconds, date_of_millis, whole_days, clock_of_seconds, clock_of_millis, clock_of_micros}
use Rattle.defmt_floats.proofs.TextLaws.{few as sizes, laid_behind, laid_great, laid_pointed, laid_small}
use Rattle.defmt_floats.specs.Layout.{zeros, whole_digits, leading_zeros, pointed, others, scientific, laid_out, number_text, infinity, sign_text, magnitude_text, float_text}
use Rattle.defmt_floats.specs.Shortest.{tens, digits, last_place}
use Rattle.defmt_grammar.specs.declared.hint.ClockUnit.{ClockUnit}
use Rattle.defmt_grammar.specs.declared.hint.ClockUnit.TheVariants as clocks
use Rattle.defmt_grammar.specs.declared.hint.IsoUnit.{IsoUnit}
use Rattle.defmt_grammar.specs.declared.hint.IsoUnit.TheVariants as dates
use Rattle.defmt_grammar.specs.declared.kind.FloatSize.{FloatSize}
use Rattle.defmt_grammar.specs.declared.kind.FloatSize.TheVariants as floats
use Rattle.defmt_hints.proofs.AsciiTexts.{AreAscii, ascii_append, glyph_is_ascii}
use Rattle.defmt_hints.specs.Printed.{date_text, clock_text, printed_float}

-- of at most so many bytes, and ASCII
pub record Short (most : ℕ) (text : List ℕ) : Type 0 where
  pub few : length text ≤ most
  pub ascii : AreAscii text

none : Short 0 []
none = record { few = omega arith; ascii = tt }

one : (b : ℕ) → b < 128 → Short 1 (b ∷ [])
one b h = record { few = omega arith; ascii = (h, tt) }

more : (m n : ℕ) (xs ys : List ℕ) → Short m xs → Short n ys → Short (m + n) (xs ++ ys)
more m n xs ys a b = record { few = omega (arith, a.few, b.few, length-append xs ys); ascii = ascii_append xs ys a.ascii b.ascii }

wider : (m n : ℕ) (xs : List ℕ) → m ≤ n → Short m xs → Short n xs
wider m n xs h a = record { few = omega (arith, a.few, h); ascii = a.ascii }

chosen : (m : ℕ) (b : Bool) (xs ys : List ℕ) → Short m xs → Short m ys → Short m (if b then xs else ys)
chosen m true xs ys a b = a
chosen m false xs ys a b = b

-- ---- decimal digits

onto : (k m n : ℕ) (behind : List ℕ) → Short m behind → Short (k + m) (digits_onto k 10 false n behind)
onto zero m n behind h = wider m (0 + m) behind (omega arith) h
onto (suc k) m n behind h =
    let d : ℕ = digit_glyph false (n % 10) in
    let next : Short (suc m) (d ∷ behind) = record { few = omega (arith, h.few); ascii = (glyph_is_ascii false (n % 10) (omega arith), h.ascii) } in
    chosen (suc k + m) (eqb (n / 10) 0) (d ∷ behind) (digits_onto k 10 false (n / 10) (d ∷ behind)) (wider (suc m) (suc k + m) _ (omega arith) next)
    (wider (k + suc m) (suc k + m) _ (omega arith) (onto k (suc m) (n / 10) (d ∷ behind) next))

short_decimal : (n : ℕ) → Short 64 (decimal n)
unfolding std_digits
short_decimal n = onto 64 0 n [] none

short_digits : (k n : ℕ) → Short k (last_digits k n)
short_digits zero n = none
short_digits (suc k) n =
    wider (k + 1) (suc k) _ (omega arith) (more k 1 (last_digits k (n / 10)) ((48 + n % 10) ∷ []) (short_digits k (n / 10)) (one (48 + n % 10) (omega arith)))

-- ---- dates and clocks

short_fraction : (k n : ℕ) → Short (1 + k) (fraction k n)
short_fraction k n = more 1 k (codes ".") (last_digits k n) (one 46 (omega arith)) (short_digits k n)

-- three texts with a byte between them
three : (k m n b : ℕ) (xs ys zs : List ℕ) → b < 128 → Short k xs → Short m ys → Short n zs → Short (k + 1 + m + 1 + n) (xs ++ (b ∷ []) ++ ys ++ (b ∷ []) ++ zs)
three k m n b xs ys zs h x y z =
    let between = one b h in
    more (k + 1 + m + 1) n _ zs (more (k + 1 + m) 1 _ (b ∷ []) (more (k + 1) m _ ys (more k 1 xs (b ∷ []) x between) y) between) z

short_time : (s : ℕ) → Short 8 (time_text s)
unfolding time_text
short_time s = three 2 2 2 58 _ _ _ (omega arith) (short_digits 2 (s / 3600)) (short_digits 2 (s % 3600 / 60)) (short_digits 2 (s % 60))

short_day : (y m d : ℕ) → Short 10 (day_text y m d)
unfolding day_text
short_day y m d = three 4 2 2 45 _ _ _ (omega arith) (short_digits 4 y) (short_digits 2 m) (short_digits 2 d)

short_early : (s : ℕ) (rest : List ℕ) → Short 4 rest → Short 64 (early_text s rest)
unfolding early_text
short_early s rest r =
    let d = date_after (s / 86400) in
    let day = more 10 1 (day_text d.year d.month d.day) (codes "T") (short_day d.year d.month d.day) (one 84 (omega arith)) in
    wider 24 64 _ (omega arith) (more 23 1 _ (codes "Z") (more 19 4 _ rest (more 11 8 _ (time_text (s % 86400)) day (short_time (s % 86400))) r) (one 90 (omega arith)))

short_date_time : (s n : ℕ) (rest : List ℕ) → Short 4 rest → Short 64 (date_time s rest n)
unfolding date_time
short_date_time s n rest r = chosen 64 (nat_lt (date_after (s / 86400)).year 10000) (early_text s rest) (decimal n) (short_early s rest r) (short_decimal n)

pub short_date : (unit : IsoUnit) (n : ℕ) → Short 64 (date_text unit n)
unfolding date_of_seconds date_of_millis
short_date dates.Seconds n = short_date_time n n [] (wider 0 4 [] (omega arith) none)
short_date dates.Millis n = short_date_time (n / 1000) n (fraction 3 (n % 1000)) (short_fraction 3 (n % 1000))

short_days : (s : ℕ) → Short 65 (whole_days s)
short_days s =
    let days = decimal (s / 86400) in
    chosen 65 (nat_lt s 86400) [] (days ++ codes ":") (wider 0 65 [] (omega arith) none) (more 64 1 days (codes ":") (short_decimal (s / 86400)) (one 58 (omega arith)))

seconds : (n : ℕ) → Short 73 (clock_of_seconds n)
unfolding clock_of_seconds
seconds n = more 65 8 (whole_days n) (time_text (n % 86400)) (short_days n) (short_time (n % 86400))

pub short_clock : (unit : ClockUnit) (n : ℕ) → Short 80 (clock_text unit n)
unfolding clock_of_millis clock_of_micros
short_clock clocks.Seconds n = wider 73 80 _ (omega arith) (seconds n)
short_clock clocks.Millis n = wider 77 80 _ (omega arith) (more 73 4 _ _ (seconds (n / 1000)) (short_fraction 3 (n % 1000)))
short_clock clocks.Micros n = more 73 7 _ _ (seconds (n / 1000000)) (short_fraction 6 (n % 1000000))

-- ---- floats

front : (m k : ℕ) (xs : List ℕ) → Short m xs → Short m (take k xs)
front m zero xs h = wider 0 m [] (omega arith) none
front m (suc k) [] h = h
front m (suc k) (x ∷ xs) h =
    let rest = front (length xs) k xs (record { few = omega arith; ascii = h.ascii.1 }) in
    record { few = omega (arith, h.few, rest.few); ascii = (h.ascii.0, rest.ascii) }

back : (m k : ℕ) (xs : List ℕ) → Short m xs → Short m (drop k xs)
back m zero xs h = h
back m (suc k) [] h = h
back m (suc k) (x ∷ xs) h = back m k xs (record { few = omega (arith, h.few); ascii = h.ascii.1 })

filling : (m n : ℕ) → n ≤ m → Short m (zeros n)
filling m zero h = wider 0 m [] (omega arith) none
filling m (suc n) h =
    let rest = filling n n (omega arith) in
    record { few = omega (arith, h, rest.few); ascii = (omega arith, rest.ascii) }

short_pointed : (ds : List ℕ) (n : ℕ) → Short 64 ds → n ≤ 16 → Short 129 (pointed ds n)
unfolding pointed
short_pointed ds n h le =
    chosen 129 (nat_lt n (length ds)) (take n ds ++ codes "." ++ drop n ds) (ds ++ zeros (n - length ds) ++ codes ".0")
    (more 65 64 _ _ (more 64 1 _ _ (front 64 n ds h) (one 46 (omega arith))) (back 64 n ds h))
    (wider 82 129 _ (omega arith) (more 80 2 _ (codes ".0") (more 64 16 ds (zeros (n - length ds)) h (filling 16 (n - length ds) (omega (arith, le)))) (record { few = omega arith; ascii = (omega arith, (omega arith, tt)) })))

short_scientific : (ds power : List ℕ) → Short 64 ds → Short 65 power → Short 195 (scientific ds power)
unfolding scientific
short_scientific ds power h p =
    let behind : Short 65 (others ds) = chosen 65 (nat_lt 1 (length ds)) (codes "." ++ drop 1 ds) [] (more 1 64 (codes ".") (drop 1 ds) (one 46 (omega arith)) (back 64 1 ds h)) (wider 0 65 [] (omega arith) none) in
    more 130 65 _ power (more 129 1 _ (codes "e") (more 64 65 (take 1 ds) (others ds) (front 64 1 ds h) behind) (one 101 (omega arith))) p

short_laid_out : (f : Format) (ds : List ℕ) (i : ℕ) → Short 64 ds → Short 195 (laid_out f ds i)
short_laid_out f ds i h = elim (cases_lt i (length ds + tens f)) [
  | inl before ↦
      let n : ℕ = length ds + tens f - i in
      elim (cases_lt (whole_digits f) n) [
        | inl great ↦ subst (Short 195) (laid_great f ds i n before refl great) (short_scientific ds (decimal (n - 1)) h (wider 64 65 _ (omega arith) (short_decimal (n - 1))))
        | inr least ↦ subst (Short 195) (laid_pointed f ds i n before refl least) (wider 129 195 _ (omega arith) (short_pointed ds n h (omega (arith, least, sizes f))))
      ]
  | inr behind ↦
      let n : ℕ = i - (length ds + tens f) in
      elim (cases_lt (leading_zeros f) n) [
        | inl small ↦ subst (Short 195) (laid_small f ds i n behind refl small) (short_scientific ds (codes "-" ++ decimal (n + 1)) h (more 1 64 (codes "-") _ (one 45 (omega arith)) (short_decimal (n + 1))))
        | inr least ↦
            let point : Short 2 (codes "0.") = record { few = omega arith; ascii = (omega arith, (omega arith, tt)) } in
            subst (Short 195) (laid_behind f ds i n behind refl least) (wider 82 195 _ (omega arith) (more 18 64 _ ds (more 2 16 (codes "0.") (zeros n) point (filling 16 n (omega (arith, least, sizes f)))) h))
      ]
]

short_number : (f : Format) (bits : ℕ) → Short 195 (number_text f bits)
unfolding number_text
short_number f bits =
    let d : ℕ = digits f bits in
    let i : ℕ = last_place f bits in
    chosen 195 (eqb (d % 10) 0) (laid_out f (decimal (d / 10)) (i - 1)) (laid_out f (decimal d) i) (short_laid_out f (decimal (d / 10)) (i - 1) (short_decimal (d / 10))) (short_laid_out f (decimal d) i (short_decimal d))

short_magnitude : (f : Format) (bits : ℕ) → Short 195 (magnitude_text f bits)
unfolding magnitude_text
short_magnitude f bits =
    let three_bytes : Short 195 (codes "0.0") = record { few = omega arith; ascii = (omega arith, (omega arith, (omega arith, tt))) } in
    let infinite : Short 195 (codes "inf") = record { few = omega arith; ascii = (omega arith, (omega arith, (omega arith, tt))) } in
    chosen 195 (eqb bits (infinity f)) (codes "inf") _ infinite (chosen 195 (eqb bits 0) (codes "0.0") (number_text f bits) three_bytes (short_number f bits))

short_float_text : (f : Format) (bits : ℕ) → Short 196 (float_text f bits)
unfolding float_text
short_float_text f bits =
    let none_is : Short 196 (codes "NaN") = record { few = omega arith; ascii = (omega arith, (omega arith, (omega arith, tt))) } in
    let sign : Short 1 (sign_text f bits) = chosen 1 (nat_le (top f) bits) (codes "-") [] (one 45 (omega arith)) (wider 0 1 [] (omega arith) none) in
    chosen 196 (nat_lt (infinity f) (bits % top f)) (codes "NaN") (sign_text f bits ++ magnitude_text f (bits % top f)) none_is (more 1 195 _ _ sign (short_magnitude f (bits % top f)))

pub short_float : (size : FloatSize) (bits : ℕ) → Short 196 (printed_float size bits)
unfolding printed_float
short_float floats.W32 bits = short_float_text binary32 bits
short_float floats.W64 bits = short_float_text binary64 bits
