-- The one code that the encoder writes (rzCOBS, its greedy encoder), and a frame of it.
use Rattle.std.specs.Prelude.{◌+◌, ◌-◌, ◌/◌, ℕ, zero, suc, List, [], ◌∷◌, ◌++◌, length, take, drop, replicate, nat_lt, nat_le, if◌then◌else◌}
use Rattle.rzcobs_core.specs.Blocks.{zero_bits, first_form, second_form, third_form}

-- how many bytes come before the first zero
unfoldable pub lead : List ℕ → ℕ
lead [] = 0
lead (b ∷ bytes) = if nat_lt 0 b then 1 + lead bytes else 0

-- seven bytes, of which those behind the given ones are zero
abbrev pub padded : List ℕ → List ℕ
padded bytes = bytes ++ replicate (7 - length bytes) 0

-- The code of a message of at most so many bytes. Seven bytes with a zero become a block of the
-- first form. Seven without go on up to a zero, which belongs to the block, or to the message's
-- end, or to 134 bytes. Fewer than seven at the end are padded.
unfoldable pub canon_within : ℕ → List ℕ → List ℕ
canon_within zero message = []
canon_within (suc most) [] = []
canon_within (suc most) (b ∷ bytes) =
    let message : List ℕ = b ∷ bytes in
    if nat_lt (length message) 7 then first_form (padded message)
    else if nat_lt 0 (zero_bits (take 7 message)) then
    first_form (take 7 message) ++ canon_within most (drop 7 message)
    else if nat_le 134 (lead message) then
    third_form (take 134 message) ++ canon_within most (drop 134 message)
    else second_form (take (lead message) message) ++ canon_within most (drop (lead message + 1) message)

-- the code of a message
unfoldable pub canon : List ℕ → List ℕ
canon message = canon_within (length message) message

-- the most bytes that the code of so many bytes has
abbrev pub bound_of : ℕ → ℕ
bound_of n = n + (n + 6) / 7

-- a message between its two delimiters (defmt book, the encoding rzcobs)
abbrev pub frame : List ℕ → List ℕ
frame message = 0 ∷ canon message ++ 0 ∷ []
