-- The shortest decimal that reads back as a float, as a function of the float's bits (IEEE 754, section 3.4). The float has no sign, and lies above 0 and below infinity.
use Rattle.std.specs.Prelude.{ℕ, zero, suc, ◌+◌, ◌-◌, ◌*◌, ◌/◌, ◌%◌, ◌^◌, Bool, false, ◌&&◌, ◌||◌, ◌==◌, nat_lt, if◌then◌else◌, to_bits}
use Rattle.std.specs.Float.Ieee.{Format, binary32, binary64, low, hid, round}

-- The float is significand * 2 ^ exponent / 2 ^ low. The hidden bit, `hid`, is no part of the bits.
unfoldable pub significand : Format → ℕ → ℕ
significand f bits = if nat_lt bits (hid f) then bits else hid f + bits % hid f

unfoldable pub exponent : Format → ℕ → ℕ
exponent f bits = bits / hid f - 1

-- each finite float is below 10 ^ tens
abbrev pub tens : Format → ℕ
tens binary32 = 39
tens binary64 = 309

-- the digits that tell each float of the format from the others (IEEE 754, section 5.12.2)
abbrev pub most_digits : Format → ℕ
most_digits binary32 = 9
most_digits binary64 = 17

-- At place i a decimal d is d * 10 ^ (tens - i), so that its last digit is that of the ones at the place `tens`. In units of the place i the float is numerator / denominator.
unfoldable pub numerator : Format → ℕ → ℕ → ℕ
unfolding significand exponent
numerator f bits i = significand f bits * 2 ^ exponent f bits * 10 ^ i

unfoldable pub denominator : Format → ℕ
denominator f = 2 ^ low f * 10 ^ tens f

-- the decimal next below the float, or at it; the next above is one more
unfoldable pub below : Format → ℕ → ℕ → ℕ
unfolding numerator denominator
below f bits i = numerator f bits i / denominator f

-- the float nearest to the decimal, ties to even, has these bits
unfoldable pub reads_back : Format → ℕ → ℕ → ℕ → Bool
reads_back f bits d i = to_bits f (round f false (d * 10 ^ (tens f - i)) (10 ^ (i - tens f))) == bits

-- one of the two decimals next to the float does
unfoldable pub is_found : Format → ℕ → ℕ → Bool
unfolding below reads_back
is_found f bits i = reads_back f bits (below f bits i) i || reads_back f bits (below f bits i + 1) i

-- of the places from i to i + count the first that passes the test, and the last of them where none before it does
unfoldable pub first_from : (ℕ → Bool) → ℕ → ℕ → ℕ
first_from test i zero = i
first_from test i (suc count) = if test i then i else first_from test (i + 1) count

-- the place of the float's first digit that isn't 0
unfoldable pub first_place : Format → ℕ → ℕ
unfolding below first_from
first_place f bits = first_from (λ i. nat_lt 0 (below f bits i)) 0 700

-- the place of the last digit that is wanted: up to it there are the fewest digits with which one of the two decimals reads back
unfoldable pub last_place : Format → ℕ → ℕ
unfolding is_found first_from first_place
last_place f bits = first_from (is_found f bits) (first_place f bits) (most_digits f - 1)

-- the decimal above is nearer to the float than the one below, or as near, and its last digit is even
unfoldable pub is_above_nearer : Format → ℕ → ℕ → Bool
unfolding numerator denominator below
is_above_nearer f bits i =
    let twice = 2 * (numerator f bits i % denominator f) in nat_lt (denominator f) twice || (twice == denominator f && (below f bits i % 2 == 1))

-- of the two decimals there the one that reads back, and where both do the nearer
unfoldable pub digits : Format → ℕ → ℕ
unfolding below reads_back last_place is_above_nearer
digits f bits =
    let i = last_place f bits in
    let d = below f bits i in
    if reads_back f bits d i
    then (if (reads_back f bits (d + 1) i && is_above_nearer f bits i) then d + 1 else d)
    else d + 1
