-- The first mark of some bytes, by its place.
use Rattle.std.proofs.Common.{◌≡◌, ◌≢◌, ◌<◌, ℕ, zero, suc, List, [], ◌∷◌, length, get_or, take, drop, refl, ap, arith}
use Rattle.std.proofs.lemmas.Bool.{ne_eqb}
use Rattle.std.proofs.lemmas.Bool.Decides.{nat_tests}
use Rattle.defmt_lines.specs.Cut.{up_to, from_mark}

up_to_here : (mark b : ℕ) (bytes : List ℕ) → b ≡ mark → up_to mark (b ∷ bytes) ≡ []
up_to_here mark b bytes is = grind (arith, nat_tests)

from_mark_here : (mark b : ℕ) (bytes : List ℕ) → b ≡ mark → from_mark mark (b ∷ bytes) ≡ b ∷ bytes
from_mark_here mark b bytes is = grind (arith, nat_tests)

pub up_to_place : (mark : ℕ) (bytes : List ℕ) (place : ℕ) → place < length bytes → ((k : ℕ) → k < place → get_or bytes k 0 ≢ mark) → get_or bytes place 0 ≡ mark → up_to mark bytes ≡ take place bytes
up_to_place mark [] place within before is = absurd (omega arith)
up_to_place mark (b ∷ bytes) zero within before is = up_to_here mark b bytes is
up_to_place mark (b ∷ bytes) (suc place) within before is =
    rw (ne_eqb b mark (before 0 (omega arith))) (ap (λ (l : List ℕ). b ∷ l) (up_to_place mark bytes place (omega arith) (λ k lt. before (suc k) (omega arith)) is))

pub from_mark_place : (mark : ℕ) (bytes : List ℕ) (place : ℕ) → place < length bytes → ((k : ℕ) → k < place → get_or bytes k 0 ≢ mark) → get_or bytes place 0 ≡ mark → from_mark mark bytes ≡ drop place bytes
from_mark_place mark [] place within before is = absurd (omega arith)
from_mark_place mark (b ∷ bytes) zero within before is = from_mark_here mark b bytes is
from_mark_place mark (b ∷ bytes) (suc place) within before is =
    rw (ne_eqb b mark (before 0 (omega arith))) (from_mark_place mark bytes place (omega arith) (λ k lt. before (suc k) (omega arith)) is)

pub up_to_none : (mark : ℕ) (bytes : List ℕ) → ((k : ℕ) → k < length bytes → get_or bytes k 0 ≢ mark) → up_to mark bytes ≡ bytes
up_to_none mark [] none = refl
up_to_none mark (b ∷ bytes) none =
    rw (ne_eqb b mark (none 0 (omega arith))) (ap (λ (l : List ℕ). b ∷ l) (up_to_none mark bytes (λ k lt. none (suc k) (omega arith))))

pub from_mark_none : (mark : ℕ) (bytes : List ℕ) → ((k : ℕ) → k < length bytes → get_or bytes k 0 ≢ mark) → from_mark mark bytes ≡ []
from_mark_none mark [] none = refl
from_mark_none mark (b ∷ bytes) none = rw (ne_eqb b mark (none 0 (omega arith))) (from_mark_none mark bytes (λ k lt. none (suc k) (omega arith)))
