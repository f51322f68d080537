-- What a line gives.
use Rattle.std.proofs.Common.{◌≡◌, ◌+◌, ℕ, true, false, List, ◌∷◌, refl}
use Rattle.std.specs.Prelude.{Ok, Err}
use Rattle.std.specs.Str.{IsUtf8, is_utf8}
use Rattle.std.proofs.lemmas.Bool.{false_from_ne_true}
use Rattle.std.proofs.lemmas.Str.{IsUtf8-from_is_utf8, is_utf8-from_IsUtf8}
use Rattle.defmt_places.specs.Places.{Map, is_passed_over, pair_in, with_line, with_lines, with_place}
use Rattle.defmt_places.specs.declared.fault.Cause.{Cause}
use Rattle.defmt_places.specs.declared.fault.Cause.TheVariants.{Line}

pub line_of_bytes : (places : Map) (line : List ℕ) → (IsUtf8 line → ⊥) → with_line places line ≡ Err Line
unfolding with_line
line_of_bytes places line bytes = rw (false_from_ne_true (is_utf8 line) (λ t. bytes (IsUtf8-from_is_utf8 line t))) refl

pub line_passed_over : (places : Map) (line : List ℕ) → IsUtf8 line → is_passed_over line ≡ true → with_line places line ≡ Ok places
unfolding with_line
line_passed_over places line text over = rw (is_utf8-from_IsUtf8 line text, over) refl

pub line_of_text : (places : Map) (line : List ℕ) → IsUtf8 line → is_passed_over line ≡ false → with_line places line ≡ with_place places (pair_in line)
unfolding with_line
line_of_text places line text not_over = rw (is_utf8-from_IsUtf8 line text, not_over) refl

-- ---- the first of several lines

pub first_taken : (number : ℕ) (places told : Map) (line : List ℕ) (lines more : List (List ℕ)) → lines ≡ line ∷ more → with_line places line ≡ Ok told
    → with_lines (number + 1) told more ≡ with_lines number places lines
first_taken number places told line lines more e taken = rw (e, taken) refl

pub first_refused : (number : ℕ) (places : Map) (line : List ℕ) (lines more : List (List ℕ)) (cause : Cause) → lines ≡ line ∷ more
    → with_line places line ≡ Err cause → with_lines number places lines ≡ Err (record { line = number; cause = cause })
first_refused number places line lines more cause e refused = rw (e, refused) refl
