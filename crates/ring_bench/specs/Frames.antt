-- Frames one behind the other.
use Rattle.std.specs.Prelude.{ℕ, zero, suc, List, [], ◌++◌}

-- the bytes of so many frames that are alike
unfoldable pub frames : ℕ → List ℕ → List ℕ
frames zero frame = []
frames (suc n) frame = frames n frame ++ frame
