-- The lines of a text, one after another.
use Rattle.std.proofs.Common.{◌≡◌, ◌≢◌, inl, inr, ℕ, ◌-◌, ◌<◌, ◌≤◌, eqb, take, drop, List, [], ◌∷◌, length, refl, sym, ◌∙◌, ap, arith}
use Rattle.std.specs.List.{slice_split, onto_first}
use Rattle.std.specs.Str.Lines.{lines, lines_of_parts, strip_carriage_return}
use Rattle.std.proofs.lemmas.Bool.{cases_eq}
use Rattle.std.proofs.lemmas.List.{take_rest}
use Rattle.std.proofs.lemmas.Bool.Decides.{nat_tests}
use Rattle.defmt_lines.specs.Cut.{up_to, from_mark}

abbrev parts : List ℕ → List (List ℕ)
parts text = slice_split (λ b. eqb b 10) text

parts_mark : (b : ℕ) (text : List ℕ) → b ≡ 10 → parts (b ∷ text) ≡ [] ∷ parts text
parts_mark b text is = grind (arith, nat_tests)

parts_other : (b : ℕ) (text : List ℕ) → b ≢ 10 → parts (b ∷ text) ≡ onto_first b (parts text)
parts_other b text not = grind (arith, nat_tests)

up_to_mark : (b : ℕ) (text : List ℕ) → b ≡ 10 → up_to 10 (b ∷ text) ≡ []
up_to_mark b text is = grind (arith, nat_tests)

up_to_other : (b : ℕ) (text : List ℕ) → b ≢ 10 → up_to 10 (b ∷ text) ≡ b ∷ up_to 10 text
up_to_other b text not = grind (arith, nat_tests)

from_mark_mark : (b : ℕ) (text : List ℕ) → b ≡ 10 → from_mark 10 (b ∷ text) ≡ b ∷ text
from_mark_mark b text is = grind (arith, nat_tests)

from_mark_other : (b : ℕ) (text : List ℕ) → b ≢ 10 → from_mark 10 (b ∷ text) ≡ from_mark 10 text
from_mark_other b text not = grind (arith, nat_tests)

parts_at : (text : List ℕ) (c : ℕ) (after : List ℕ) → from_mark 10 text ≡ c ∷ after → parts text ≡ up_to 10 text ∷ parts after
parts_at [] c after is = absurd (cc)
parts_at (b ∷ text) c after is = elim (cases_eq b 10) [
  | inl mark ↦
      let same : text ≡ after = cc (from_mark_mark b text mark, is) in
      parts_mark b text mark ∙ ap (λ (l : List ℕ). [] ∷ parts l) same ∙ ap (λ (l : List ℕ). l ∷ parts after) (sym (up_to_mark b text mark))
  | inr other ↦
      parts_other b text other ∙ ap (onto_first b) (parts_at text c after (sym (from_mark_other b text other) ∙ is))
      ∙ ap (λ (l : List ℕ). l ∷ parts after) (sym (up_to_other b text other))
]

parts_none : (text : List ℕ) → from_mark 10 text ≡ [] → (parts text ≡ text ∷ []) × (up_to 10 text ≡ text)
parts_none [] is = (refl, refl)
parts_none (b ∷ text) is = elim (cases_eq b 10) [
  | inl mark ↦ absurd (cc (from_mark_mark b text mark, is))
  | inr other ↦
      let more = parts_none text (sym (from_mark_other b text other) ∙ is) in
      (parts_other b text other ∙ ap (onto_first b) more.0, up_to_other b text other ∙ ap (λ (l : List ℕ). b ∷ l) more.1)
]

some_part : (text : List ℕ) → (first : List ℕ) × (more : List (List ℕ)) × (parts text ≡ first ∷ more)
some_part [] = ([], [], refl)
some_part (b ∷ text) = elim (cases_eq b 10) [
  | inl mark ↦ ([], parts text, parts_mark b text mark)
  | inr other ↦ let p = some_part text in (b ∷ p.0, p.1, parts_other b text other ∙ ap (onto_first b) p.2)
]

-- a line that ends, and those after it
lines_at : (text : List ℕ) (c : ℕ) (after : List ℕ) → from_mark 10 text ≡ c ∷ after → lines text ≡ strip_carriage_return (up_to 10 text) ∷ lines after
lines_at text c after is =
    let p = some_part after in
    ap lines_of_parts (parts_at text c after is) ∙ ap (λ (l : List (List ℕ)). lines_of_parts (up_to 10 text ∷ l)) p.2
    ∙ ap (λ (l : List (List ℕ)). strip_carriage_return (up_to 10 text) ∷ lines_of_parts l) (sym p.2)

one_part : (b : ℕ) (text : List ℕ) → lines_of_parts ((b ∷ text) ∷ []) ≡ (b ∷ text) ∷ []
one_part b text = grind (arith, nat_tests)

-- the last line, which doesn't end
pub lines_last : (text : List ℕ) → from_mark 10 text ≡ [] → 0 < length text → lines text ≡ up_to 10 text ∷ []
lines_last [] is some = absurd (omega arith)
lines_last (b ∷ text) is some =
    let whole = parts_none (b ∷ text) is in
    ap lines_of_parts whole.0 ∙ one_part b text ∙ ap (λ (l : List ℕ). l ∷ []) (sym whole.1)

-- the same, as the code cuts it
pub cut_last : (text line behind : List ℕ) → line ≡ up_to 10 text → behind ≡ from_mark 10 text → length behind < 1 → 0 < length text
    → lines text ≡ line ∷ lines behind
cut_last text line [] is rest none some = lines_last text (sym rest) some ∙ ap (λ (l : List ℕ). l ∷ []) (sym is)
cut_last text line (b ∷ behind) is rest none some = absurd (omega arith)

pub cut_at : (text stripped line behind : List ℕ) → line ≡ up_to 10 text → behind ≡ from_mark 10 text → 1 ≤ length behind → stripped ≡ strip_carriage_return line
    → lines text ≡ stripped ∷ lines (take (length behind - 1) (drop 1 behind))
cut_at text stripped line [] is rest some strips = absurd (omega arith)
cut_at text stripped line (c ∷ after) is rest some strips =
    lines_at text c after (sym rest) ∙ ap (λ (l : List ℕ). strip_carriage_return l ∷ lines after) (sym is)
    ∙ ap (λ (l : List ℕ). l ∷ lines after) (sym strips) ∙ ap (λ (l : List ℕ). stripped ∷ lines l) (sym (take_rest (c ∷ after) 1))
