use Rattle.std.proofs.Common.{◌≡◌, ◌⊎◌, ℕ, List, inl, inr}
use Rattle.std.specs.Prelude.{Some}
use Rattle.std.specs.FinMap.{empty, get, get-empty}
use Rattle.std.specs.Ordering.{nat_cmp}
use Rattle.std.specs.Str.Lines.{lines}
use Rattle.defmt_places.specs.Told.{IsTold}
use Rattle.defmt_places.proofs.Told.{lines_told}
use Rattle.defmt_places.proofs.reading.places_are_told.Goals as goal

told_of : (those : List (List ℕ)) (index : ℕ) (place : List ℕ) → (get {R = nat_cmp} empty index ≡ Some place) ⊎ IsTold those index place → IsTold those index place
told_of those index place (inl got) = absurd (cc (got, get-empty {X = List ℕ} nat_cmp index))
told_of those index place (inr told) = told

pub returns : goal.returns
returns c = λ text places e index place.
    let told = lines_told (lines text) 1 empty places e index place in
    (λ got. told_of (lines text) index place (told.0 got), λ is. told.1 (inr is))
