-- What a code stands for, as a function: its blocks are read from its end, since each ends with its code byte.
use Rattle.std.specs.Prelude.{◌-◌, ◌/◌, ◌%◌, ◌==◌, ℕ, zero, suc, nat_lt, List, [], ◌∷◌, ◌++◌, length, take, drop, Option, Some, None, option_map, if◌then◌else◌}
use Rattle.std.specs.List.{list_any}
use Rattle.rzcobs_core.specs.Reading.{clear_bits}

-- x and xs without the last of them, and the last
abbrev pub front_bytes : ℕ → List ℕ → List ℕ
front_bytes x [] = []
front_bytes x (y ∷ ys) = x ∷ front_bytes y ys

abbrev pub last_byte : ℕ → List ℕ → ℕ
last_byte x [] = x
last_byte x (y ∷ ys) = last_byte y ys

-- ---- one block, by its code byte and what is stored in front of that

-- how many bytes are stored
abbrev pub stored_in : ℕ → ℕ
stored_in code = if nat_lt code 128 then clear_bits 7 code else (if nat_lt code 255 then code - 121 else 134)

abbrev pub first_and : (List ℕ → List ℕ) → List ℕ → List ℕ
first_and more [] = []
first_and more (x ∷ xs) = x ∷ more xs

-- so many bytes: a zero for each set bit, from the lowest on, and the next stored one for each clear bit
unfoldable pub spread : ℕ → ℕ → List ℕ → List ℕ
spread zero bits stored = []
spread (suc n) bits stored = if bits % 2 == 1 then 0 ∷ spread n (bits / 2) stored else first_and (λ more. spread n (bits / 2) more) stored

-- what the block stands for
abbrev pub bytes_in : ℕ → List ℕ → List ℕ
bytes_in code stored = if nat_lt code 128 then spread 7 code stored else (if nat_lt code 255 then stored ++ 0 ∷ [] else stored)

-- ---- blocks

-- the last block has so many stored bytes behind the first k, and `more` tells what stands in front of it
abbrev pub last_block : (List ℕ → Option (List ℕ)) → List ℕ → ℕ → ℕ → Option (List ℕ)
last_block more before code k = option_map (λ bytes. bytes ++ bytes_in code (drop k before)) (more (take k before))

-- none where the code byte is no byte, or the bytes are too few
abbrev pub blocks_by : (List ℕ → Option (List ℕ)) → List ℕ → ℕ → Option (List ℕ)
blocks_by more before code =
    if nat_lt 255 code then None
    else (if nat_lt (length before) (stored_in code) then None else last_block more before code (length before - stored_in code))

-- a list that is read by at most so many blocks
unfoldable pub decoded_by : ℕ → List ℕ → Option (List ℕ)
decoded_by most [] = Some []
decoded_by zero (x ∷ xs) = None
decoded_by (suc most) (x ∷ xs) = blocks_by (λ front. decoded_by most front) (front_bytes x xs) (last_byte x xs)

-- no byte of a code is zero, and it has no more blocks than bytes
unfoldable pub decoded : List ℕ → Option (List ℕ)
decoded code = if list_any (λ b. b == 0) code then None else decoded_by (length code) code
