-- How many bytes are put.
use Rattle.std.proofs.Common.{◌≤◌, ◌++◌, ℕ, [], length, Option, Some, None, arith, length-append}
use Rattle.byteorder.specs.Endian.{little_bytes}
use Rattle.defmt_encode.specs.Placed.{place_bytes}
use Rattle.defmt_encode.proofs.Numbers.{length_little}
use Rattle.defmt_encode.proofs.Placing.{place_few}
use Rattle.defmt_macros.specs.Frames.{head_of}

pub head_length : (index : ℕ) (place stamp : Option ℕ) → length (head_of index place stamp) ≤ 12
head_length index place None =
    omega (arith, length-append (little_bytes 2 index) (place_bytes place ++ []), length-append (place_bytes place) [], length_little 2 index, place_few place)
head_length index place (Some n) =
    omega (arith, length-append (little_bytes 2 index) (place_bytes place ++ little_bytes 8 n), length-append (place_bytes place) (little_bytes 8 n), length_little 2 index, place_few place, length_little 8 n)
