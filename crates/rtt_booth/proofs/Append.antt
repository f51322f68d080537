-- One word more.
use Rattle.std.proofs.Common.{◌≡◌, ℕ, ◌+◌, ◌<◌, ◌≤◌, List, [], ◌∷◌, ◌++◌, Bool, true, false, ◌==◌, length, refl, sym, ap, ◌∙◌, subst, append_assoc, append-nil, arith}
use Rattle.std.specs.Prelude.{if◌then◌else◌, Option, Some, option_map, option_to_list, slice_get, slice_index_or, slice_set}
use Rattle.std.proofs.lemmas.Bool.{eqb-true}
use Rattle.std.proofs.lemmas.List.{length-set}
use Rattle.rtt_booth.proofs.Spoken.{spoken_behind}
use Rattle.rtt_booth.specs.Kept.{Counts, current_after, line_from, word}
use Rattle.rtt_booth.specs.Said.{IsLawful, lines_of, places, spoken_by, words_of}
use Rattle.rtt_booth.specs.declared.said.Word.{Word}
use Rattle.rtt_terminal.specs.Speech.{Saying, Speech, count_said, line_of, said_by}
use Rattle.rtt_terminal.specs.Stream.{Line, spoken}
use Rattle.shared_work.proofs.Counted.{consecutive-snoc, raised}
use Rattle.shared_work.specs.Places.{AreConsecutive}

-- ---- the places

pub places-snoc : (w : ℕ) (xs : List Word) (v : Word) → places w (xs ++ v ∷ []) ≡ places w xs ++ (if v.writer == w then v.place ∷ [] else [])
places-snoc w [] v = refl
places-snoc w (x ∷ xs) v =
    let t : List ℕ = (if v.writer == w then v.place ∷ [] else []) in
    elim (x.writer == w) as (λ (b : Bool). (if b then x.place ∷ places w (xs ++ v ∷ []) else places w (xs ++ v ∷ [])) ≡ (if b then x.place ∷ places w xs else places w xs) ++ t) [
      | true ↦ ap (λ l. x.place ∷ l) (places-snoc w xs v)
      | false ↦ places-snoc w xs v
    ]

pub words_of-snoc : (w : ℕ) (xs : List Word) (v : Word) → words_of w (xs ++ v ∷ []) ≡ words_of w xs + (if v.writer == w then 1 else 0)
words_of-snoc w [] v = elim (v.writer == w) as (λ (b : Bool). (if b then 0 + 1 else 0) ≡ 0 + (if b then 1 else 0)) [ true ↦ refl | false ↦ refl ]
words_of-snoc w (x ∷ xs) v =
    let t : ℕ = (if v.writer == w then 1 else 0) in
    let h : words_of w (xs ++ v ∷ []) ≡ words_of w xs + t = words_of-snoc w xs v in
    elim (x.writer == w) as (λ (b : Bool). (if b then words_of w (xs ++ v ∷ []) + 1 else words_of w (xs ++ v ∷ [])) ≡ (if b then words_of w xs + 1 else words_of w xs) + t) [
      | true ↦ omega (arith, h)
      | false ↦ h
    ]

pub length-places : (w : ℕ) (xs : List Word) → length (places w xs) ≡ words_of w xs
length-places w [] = refl
length-places w (x ∷ xs) =
    let h : length (places w xs) ≡ words_of w xs = length-places w xs in
    elim (x.writer == w) as (λ (b : Bool). length (if b then x.place ∷ places w xs else places w xs) ≡ (if b then words_of w xs + 1 else words_of w xs)) [
      | true ↦ omega (arith, h)
      | false ↦ h
    ]

order_case : (w : ℕ) (words : List Word) (v : Word) → AreConsecutive 0 (places w words) → v.place ≡ words_of v.writer words → (b : Bool) → (v.writer == w) ≡ b → AreConsecutive 0 (places w words ++ (if b then v.place ∷ [] else []))
order_case w words v h e true is =
    let same : v.writer ≡ w = eqb-true _ _ is in
    let here : v.place ≡ words_of w words = e ∙ ap (λ (n : ℕ). words_of n words) same in
    consecutive-snoc 0 (places w words) v.place h (omega (arith, here, length-places w words))
order_case w words v h e false is = subst (AreConsecutive 0) (sym (append-nil (places w words))) h

within_case : (speech : Speech) (w : ℕ) (words : List Word) (v : Word) → words_of w words ≤ count_said speech w → words_of v.writer words < count_said speech v.writer → (b : Bool) → (v.writer == w) ≡ b
    → words_of w words + (if b then 1 else 0) ≤ count_said speech w
within_case speech w words v h more true is =
    let same : v.writer ≡ w = eqb-true _ _ is in
    let P : ℕ → Type 0 = λ n. words_of n words < count_said speech n in
    let here : words_of w words < count_said speech w = subst P same more in
    omega (arith, here)
within_case speech w words v h more false is = omega (arith, h)

pub within_snoc : (speech : Speech) (words : List Word) (v : Word) → ((w : ℕ) → words_of w words ≤ count_said speech w) → words_of v.writer words < count_said speech v.writer
    → (w : ℕ) → words_of w (words ++ v ∷ []) ≤ count_said speech w
within_snoc speech words v h more w =
    subst (λ (n : ℕ). n ≤ count_said speech w) (sym (words_of-snoc w words v)) (within_case speech w words v (h w) more (v.writer == w) refl)

-- the next word of a writer
abbrev pub next_word : List Word → ℕ → Word
next_word words w = word w (words_of w words)

pub lawful_more : (speech : Speech) (words : List Word) (w : ℕ) → IsLawful speech words → words_of w words < count_said speech w → IsLawful speech (words ++ next_word words w ∷ [])
lawful_more speech words w is more =
    let v : Word = next_word words w in
    record {
      order = λ n. subst (AreConsecutive 0) (sym (places-snoc n words v)) (order_case n words v (is.order n) refl (w == n) refl);
      within = within_snoc speech words v is.within more;
    }

pub lawful_none : (speech : Speech) → IsLawful speech []
lawful_none speech = record { order = λ w. tt; within = λ w. omega arith }

-- ---- the writers' next places

pub counts_append : (xs : List ℕ) (words now : List Word) (v : Word) → Counts xs words → now ≡ words ++ v ∷ [] → v.writer < 8 → Counts (slice_set xs v.writer (slice_index_or xs v.writer 0 + 1)) now
counts_append xs words now v c is below = (
  length-set xs v.writer (slice_index_or xs v.writer 0 + 1) ∙ c.0,
  λ w lt. raised xs v.writer w (λ _. omega (arith, c.0, below)) ∙ ap (λ (k : ℕ). k + (if v.writer == w then 1 else 0)) (c.1 w lt) ∙ sym (words_of-snoc w words v) ∙ ap (words_of w) (sym is),
)

-- ---- the lines

lines-snoc : (speech : Speech) (words : List Word) (v : Word) → lines_of speech (words ++ v ∷ []) ≡ lines_of speech words ++ option_to_list (option_map line_of (slice_get (said_by speech v.writer) v.place))
lines-snoc speech [] v = append-nil (option_to_list (option_map line_of (slice_get (said_by speech v.writer) v.place)))
lines-snoc speech (x ∷ words) v =
    let first : List Line = option_to_list (option_map line_of (slice_get (said_by speech x.writer) x.place)) in
    let last : List Line = option_to_list (option_map line_of (slice_get (said_by speech v.writer) v.place)) in
    ap (λ (l : List Line). first ++ l) (lines-snoc speech words v) ∙ sym (append_assoc first (lines_of speech words) last)

pub lines_more : (speech : Speech) (words : List Word) (w place : ℕ) (s : Saying) → slice_get (said_by speech w) place ≡ Some s
    → lines_of speech (words ++ word w place ∷ []) ≡ lines_of speech words ++ line_of s ∷ []
lines_more speech words w place s there =
    lines-snoc speech words (word w place) ∙ ap (λ (o : Option Saying). lines_of speech words ++ option_to_list (option_map line_of o)) there

pub spoken_more : (speech : Speech) (words : List Word) (w place : ℕ) (s : Saying) → slice_get (said_by speech w) place ≡ Some s
    → spoken_by speech (words ++ word w place ∷ []) ≡ spoken_by speech words ++ line_from (current_after 0 (lines_of speech words)) s.terminal s.text
spoken_more speech words w place s there = ap spoken (lines_more speech words w place s there) ∙ spoken_behind 0 (lines_of speech words) (line_of s)

current-snoc : (current : ℕ) (lines : List Line) (line : Line) → current_after current (lines ++ line ∷ []) ≡ line.terminal
current-snoc current [] line = refl
current-snoc current (l ∷ lines) line = current-snoc l.terminal lines line

pub current_more : (speech : Speech) (words : List Word) (w place : ℕ) (s : Saying) → slice_get (said_by speech w) place ≡ Some s
    → current_after 0 (lines_of speech (words ++ word w place ∷ [])) ≡ s.terminal
current_more speech words w place s there = ap (current_after 0) (lines_more speech words w place s there) ∙ current-snoc 0 (lines_of speech words) (line_of s)
