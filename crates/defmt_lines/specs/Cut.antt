-- A list of bytes, cut at the first that is a mark.
use Rattle.std.specs.Prelude.{◌==◌, ℕ, List, [], ◌∷◌, if◌then◌else◌}

-- the bytes before the first mark; without one these are all
abbrev pub up_to : ℕ → List ℕ → List ℕ
up_to mark [] = []
up_to mark (b ∷ bytes) = if b == mark then [] else b ∷ up_to mark bytes

-- the bytes from the first mark on
abbrev pub from_mark : ℕ → List ℕ → List ℕ
from_mark mark [] = []
from_mark mark (b ∷ bytes) = if b == mark then b ∷ bytes else from_mark mark bytes
