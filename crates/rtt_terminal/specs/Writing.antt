-- Bytes put at a place.
use Rattle.std.specs.Prelude.{◌+◌, ◌++◌, ℕ, List, length, take, drop}

abbrev pub with_bytes : List ℕ → ℕ → List ℕ → List ℕ
with_bytes old at bytes = take at old ++ (bytes ++ drop (at + length bytes) old)
