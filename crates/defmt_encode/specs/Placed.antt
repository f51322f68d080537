-- The place of a message: in the second profile the number of its mark modulo 65,536, in two bytes behind the index.
use Rattle.std.specs.Prelude.{◌<◌, ◌%◌, ◌^◌, ℕ, List, [], Option, Some, None}
use Rattle.byteorder.specs.Endian.{little_bytes}
use Rattle.defmt_intern.specs.declared.table.Profile.{Profile}
use Rattle.defmt_intern.specs.declared.table.Profile.TheVariants as profiles

-- there is a place exactly in the second profile
abbrev pub HasPlace : Profile → Option ℕ → Type 0
HasPlace profiles.One None = Unit {0}
HasPlace profiles.One (Some n) = ⊥
HasPlace profiles.Two None = ⊥
HasPlace profiles.Two (Some n) = n < 2 ^ 16

-- the place in the message of the mark number n
abbrev pub place_in : Profile → ℕ → Option ℕ
place_in profiles.One n = None
place_in profiles.Two n = Some (n % 65536)

abbrev pub place_bytes : Option ℕ → List ℕ
place_bytes None = []
place_bytes (Some n) = little_bytes 2 n
