-- The lines of a text that is UTF-8, cut at the places of its newlines.
use Rattle.std.proofs.Common.{◌≡◌, ◌<◌, ◌≤◌, ◌+◌, ◌-◌, ◌⊎◌, inl, inr, ℕ, zero, suc, eqb, eq-eqb, List, [], ◌∷◌, length, get_or, take, drop, sym, ap, subst, ◌∙◌, arith, length-drop, length-take, drop_of_length-le}
use Rattle.std.specs.Str.{IsCharBoundary, IsUtf8}
use Rattle.std.specs.Str.Lines.{lines, strip_carriage_return}
use Rattle.std.proofs.lemmas.Bool.{cases_eq, cond-false, cond-true, ne_eqb}
use Rattle.std.proofs.lemmas.List.{drop-drop, take_all, take_rest}
use Rattle.std.proofs.lemmas.Str.{IsCharBoundary-before_ascii, IsCharBoundary-end, IsUtf8-drop}
use Rattle.defmt_lines.specs.Cut.{up_to, from_mark}
use Rattle.defmt_lines.proofs.LineCuts.{cut_at, cut_last}
use Rattle.defmt_lines.proofs.Marks.{up_to_place, from_mark_place, up_to_none, from_mark_none}

-- ---- a newline

abbrev pub OtherBefore : List ℕ → ℕ → Type 0
OtherBefore bytes place = (k : ℕ) → k < place → get_or bytes k 0 ≡ 10 → ⊥

module _ (text bytes : List ℕ) (same : bytes ≡ text) where
  pub text_cut : (stripped line after : List ℕ) (place : ℕ) → place < length bytes → OtherBefore bytes place → get_or bytes place 0 ≡ 10
      → line ≡ take place text → after ≡ drop (place + 1) text → stripped ≡ strip_carriage_return line → lines text ≡ stripped ∷ lines after
  text_cut stripped line after place within before is front back strips =
      let behind : List ℕ = drop place text in
      let line_is : line ≡ up_to 10 text = front ∙ ap (λ (t : List ℕ). take place t) (sym same) ∙ sym (up_to_place 10 bytes place within before is) ∙ ap (λ (t : List ℕ). up_to 10 t) same in
      let behind_is : behind ≡ from_mark 10 text = ap (λ (t : List ℕ). drop place t) (sym same) ∙ sym (from_mark_place 10 bytes place within before is) ∙ ap (λ (t : List ℕ). from_mark 10 t) same in
      let some : 1 ≤ length behind = omega (arith, length-drop place text, ap length same, within) in
      let after_is : take (length behind - 1) (drop 1 behind) ≡ after = take_rest behind 1 ∙ drop-drop 1 place text ∙ sym back in
      cut_at text stripped line behind line_is behind_is some strips ∙ ap (λ (t : List ℕ). stripped ∷ lines t) after_is

  pub text_last : (line behind : List ℕ) (n : ℕ) → n ≡ length text → OtherBefore bytes (length bytes) → line ≡ take n text → behind ≡ drop n text → 0 < length text
      → lines text ≡ line ∷ lines behind
  text_last line behind n size none front back some =
      let line_is : line ≡ up_to 10 text = front ∙ take_all n text (omega (arith, size)) ∙ sym same ∙ sym (up_to_none 10 bytes none) ∙ ap (λ (t : List ℕ). up_to 10 t) same in
      let empty : behind ≡ [] = back ∙ drop_of_length-le text (omega (arith, size)) in
      let behind_is : behind ≡ from_mark 10 text = empty ∙ sym (from_mark_none 10 bytes none) ∙ ap (λ (t : List ℕ). from_mark 10 t) same in
      cut_last text line behind line_is behind_is (omega (arith, ap length empty)) some

pub last_shorter : (text behind : List ℕ) (n : ℕ) → n ≡ length text → behind ≡ drop n text → 0 < length text → length behind < length text
last_shorter text behind n size back some = omega (arith, ap length back, length-drop n text, size, some)

pub last_utf8 : (text behind : List ℕ) (n : ℕ) → n ≡ length text → behind ≡ drop n text → IsUtf8 text → IsUtf8 behind
last_utf8 text behind n size back utf8 =
    let boundary : IsCharBoundary text n = subst (λ (m : ℕ). IsCharBoundary text m) (sym size) (IsCharBoundary-end text) in
    subst (λ (t : List ℕ). IsUtf8 t) (sym back) (IsUtf8-drop text n utf8 boundary)

-- ---- a carriage return at the end

there_by : (xs : List ℕ) (i : ℕ) → get_or xs i 0 ≡ 13 → i < length xs
there_by [] i e = absurd (omega (arith, e))
there_by (x ∷ xs) zero e = omega arith
there_by (x ∷ xs) (suc i) e = omega (arith, there_by xs i e)

abbrev last_is : List ℕ → Type 0
last_is line = get_or line (length line - 1) 0 ≡ 13

strip_cases : (line : List ℕ) → (strip_carriage_return line ≡ line) ⊎ (last_is line × (strip_carriage_return line ≡ take (length line - 1) line))
strip_cases line = elim (cases_eq (get_or line (length line - 1) 0) 13) [
  | inl is ↦ inr (is, cond-true (eqb (get_or line (length line - 1) 0) 13) (take (length line - 1) line) line (eq-eqb _ _ is))
  | inr other ↦ inl (cond-false (eqb (get_or line (length line - 1) 0) 13) (take (length line - 1) line) line (ne_eqb (get_or line (length line - 1) 0) 13 other))
]

-- so many bytes are kept, up to which the line can be cut
kept_by : (line : List ℕ) → (take (length (strip_carriage_return line)) line ≡ strip_carriage_return line) × IsCharBoundary line (length (strip_carriage_return line))
kept_by line = elim (strip_cases line) [
  | inl whole ↦
      subst (λ (s : List ℕ). (take (length s) line ≡ s) × IsCharBoundary line (length s)) (sym whole) (take_all (length line) line (omega arith), IsCharBoundary-end line)
  | inr p ↦
      let within : length line - 1 < length line = there_by line (length line - 1) p.0 in
      let size : length (take (length line - 1) line) ≡ length line - 1 = length-take (length line - 1) line ∙ omega arith in
      subst (λ (s : List ℕ). (take (length s) line ≡ s) × IsCharBoundary line (length s)) (sym p.1)
      (ap (λ (n : ℕ). take n line) size, subst (λ (n : ℕ). IsCharBoundary line n) (sym size) (IsCharBoundary-before_ascii line (length line - 1) within (omega (arith, p.0))))
]

module _ (line bytes stripped : List ℕ) (n : ℕ) (same : bytes ≡ line) (is : stripped ≡ strip_carriage_return bytes) (size : n ≡ length stripped) where
  long : n ≡ length (strip_carriage_return line)
  long = size ∙ ap length (is ∙ ap (λ (t : List ℕ). strip_carriage_return t) same)

  pub kept_boundary : IsCharBoundary line n
  kept_boundary = subst (λ (m : ℕ). IsCharBoundary line m) (sym long) (kept_by line).1

  pub kept_text : (front : List ℕ) → front ≡ take n line → front ≡ strip_carriage_return line
  kept_text front f = f ∙ ap (λ (m : ℕ). take m line) long ∙ (kept_by line).0
