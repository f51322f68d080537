-- The elements of a list behind its first.
use Rattle.std.specs.Prelude.{ℕ, codes, List, ◌++◌, map}
use Rattle.std.specs.List.{flat_map}

-- each behind a comma and a space
abbrev pub others_text : (ℕ → List ℕ) → List ℕ → List ℕ
others_text f others = flat_map (λ y. codes ", " ++ y) (map f others)
