-- The text of a float, laid out as the crate ryu does.
use Rattle.std.specs.Prelude.{ℕ, ◌+◌, ◌-◌, ◌*◌, ◌/◌, ◌%◌, ◌==◌, nat_lt, nat_le, if◌then◌else◌, List, [], ◌++◌, length, take, drop, replicate, codes, decimal}
use Rattle.std.specs.Float.Ieee.{Format, binary32, binary64, hid, ones, top}
use Rattle.defmt_floats.specs.Shortest.{tens, digits, last_place}

-- so many digits may stand in front of the point, zeros too, where there is no exponent
abbrev pub whole_digits : Format → ℕ
whole_digits binary32 = 13
whole_digits binary64 = 16

-- so many zeros may stand between the point and the first digit
abbrev pub leading_zeros : Format → ℕ
leading_zeros binary32 = 5
leading_zeros binary64 = 4

abbrev pub zeros : ℕ → List ℕ
zeros n = replicate n 48

-- the point behind the first n digits; a whole number has a `.0`
unfoldable pub pointed : List ℕ → ℕ → List ℕ
pointed ds n = if nat_lt n (length ds) then take n ds ++ codes "." ++ drop n ds else ds ++ zeros (n - length ds) ++ codes ".0"

-- the digits behind the first, where there are any
abbrev pub others : List ℕ → List ℕ
others ds = if nat_lt 1 (length ds) then codes "." ++ drop 1 ds else []

-- one digit in front of the point, and an exponent
unfoldable pub scientific : List ℕ → List ℕ → List ℕ
scientific ds power = take 1 ds ++ others ds ++ codes "e" ++ power

-- Digits, the last of which stands at place i. The first one stands in front of the point where i is below `end`.
unfoldable pub laid_out : Format → List ℕ → ℕ → List ℕ
laid_out f ds i =
    let end = length ds + tens f in
    if nat_lt i end
    then (if nat_le (end - i) (whole_digits f) then pointed ds (end - i) else scientific ds (decimal (end - i - 1)))
    else (if nat_le (i - end) (leading_zeros f) then codes "0." ++ zeros (i - end) ++ ds else scientific ds (codes "-" ++ decimal (i + 1 - end)))

-- of the digits only 10, one more than 9, has a zero at its end, which isn't written
unfoldable pub number_text : Format → ℕ → List ℕ
number_text f bits =
    let d = digits f bits in
    let i = last_place f bits in
    if d % 10 == 0 then laid_out f (decimal (d / 10)) (i - 1) else laid_out f (decimal d) i

-- the bits of infinity
abbrev pub infinity : Format → ℕ
infinity f = ones f * hid f

abbrev pub sign_text : Format → ℕ → List ℕ
sign_text f bits = if nat_le (top f) bits then codes "-" else []

-- the text without a sign, of a float that is a number
unfoldable pub magnitude_text : Format → ℕ → List ℕ
magnitude_text f bits = if bits == infinity f then codes "inf" else (if bits == 0 then codes "0.0" else number_text f bits)

-- The text of the float with these bits. What lies above infinity is no number, and its sign isn't written.
unfoldable pub float_text : Format → ℕ → List ℕ
float_text f bits = if nat_lt (infinity f) (bits % top f) then codes "NaN" else sign_text f bits ++ magnitude_text f (bits % top f)
