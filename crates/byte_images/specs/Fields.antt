-- Numbers at places in bytes.
use Rattle.std.specs.Prelude.{ℕ, List}
use Rattle.byteorder.specs.Endian.{little_from}

-- the number in `size` bytes from place `at`, the lowest byte first; past the end stand zeros
unfoldable pub number : ℕ → ℕ → List ℕ → ℕ
number at size bytes = little_from at size bytes
