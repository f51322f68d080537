-- The line of a script that sets the ring's mode.
use Rattle.std.specs.Prelude.{◌≡◌, ◌⊎◌, ℕ, ◌+◌, Bool, true, false, List, [], ◌∷◌, Option, Some, None}
use Rattle.defmt_lines.specs.Line.{Line, Says, head}
use Rattle.defmt_lines.specs.declared.form.Form.TheVariants.{Mode}

-- `mode WORD`
abbrev pub IsMode : List ℕ → Type 0
IsMode bytes = (words : List (List ℕ)) × Says bytes (head Mode words)

-- The number of the first of these lines that is so, where the first has this number, and none where no line is.
abbrev pub FirstMode : ℕ → List (List ℕ) → Option ℕ → Type 0
FirstMode number [] found = found ≡ None
FirstMode number (bytes ∷ more) found =
    (IsMode bytes × (found ≡ Some number))
    ⊎ ((IsMode bytes → ⊥) × FirstMode (number + 1) more found)

-- ---- for private clauses

abbrev pub is_mode_line : Line → Bool
is_mode_line (head Mode words) = true
is_mode_line line = false
