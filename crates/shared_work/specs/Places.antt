-- Places one after another.
use Rattle.std.specs.Prelude.{◌≡◌, ℕ, ◌+◌, List, [], ◌∷◌}

-- the numbers from this one on, one after another
abbrev pub AreConsecutive : ℕ → List ℕ → Type 0
AreConsecutive from [] = Unit {0}
AreConsecutive from (k ∷ ks) = (k ≡ from) × AreConsecutive (from + 1) ks
