-- Lists of bytes, written element by element.
use Rattle.std.proofs.Common.{◌≡◌, ◌<◌, ◌≤◌, ◌+◌, ℕ, List, [], ◌∷◌, ◌++◌, length, map, drop, get_or, codes, refl, ap, ◌∙◌, arith, append_assoc}
use Rattle.std.proofs.lemmas.List.{drop_more}
use Rattle.std.proofs.Math.ListN.{drop_of_length-le}
use Rattle.defmt_hints.specs.Printed.{list_text}
use Rattle.defmt_hints.specs.Lists.{others_text}

-- an element that is to come, behind its comma
pub others_at : (f : ℕ → List ℕ) (xs : List ℕ) (i : ℕ) → i < length xs → others_text f (drop i xs) ≡ (codes ", " ++ f (get_or xs i 0)) ++ others_text f (drop (i + 1) xs)
others_at f xs i lt = ap (others_text f) (drop_more xs i 0 lt)

pub others_over : (f : ℕ → List ℕ) (xs : List ℕ) (i : ℕ) → length xs ≤ i → others_text f (drop i xs) ≡ []
others_over f xs i le = ap (others_text f) (drop_of_length-le xs le)

pub list_none : (f : ℕ → List ℕ) (bytes : List ℕ) → length bytes ≡ 0 → list_text (map f bytes) ≡ codes "[" ++ codes "]"
unfolding list_text
list_none f [] e = refl
list_none f (b ∷ bytes) e = absurd (omega (arith, e))

pub list_first : (f : ℕ → List ℕ) (bytes others : List ℕ) (first : ℕ) → bytes ≡ first ∷ others → list_text (map f bytes) ≡ codes "[" ++ (f first ++ (others_text f others ++ codes "]"))
unfolding list_text
list_first f bytes others first e = ap (λ (t : List ℕ). list_text (map f t)) e ∙ ap (λ (t : List ℕ). codes "[" ++ t) (append_assoc (f first) (others_text f others) (codes "]"))
