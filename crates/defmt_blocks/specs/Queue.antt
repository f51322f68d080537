-- Blocks that were read ahead.
use Rattle.std.specs.Prelude.{◌≤◌, ℕ, List, [], ◌∷◌, ◌++◌, take, Option}
use Rattle.defmt_listen.specs.Heard.{IsMet}
use Rattle.defmt_listen.specs.declared.crew.Behind.{Behind}
use Rattle.defmt_blocks.specs.declared.part.Part.{Part}

-- their bytes, in their order
abbrev pub bytes_in : List Part → List ℕ
bytes_in [] = []
bytes_in (part ∷ parts) = take part.count part.buf.items ++ bytes_in parts

-- the source failed no less often than before, and this is so behind all that was read
abbrev pub KnowsOf : ℕ → Behind → Option (List ℕ) → ℕ → Type 0
KnowsOf count behind left faults = (count ≤ faults) × IsMet count left faults behind
