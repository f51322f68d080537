-- What words speak is shown.
use Rattle.std.proofs.Common.{◌≡◌, ◌≢◌, ◌<◌, ◌≤◌, ◌+◌, ℕ, zero, suc, eqb, cond, List, [], ◌∷◌, ◌++◌, length, length-append, refl, ap, subst, arith, inl, inr}
use Rattle.std.specs.Prelude.{All, option_map, option_to_list, slice_get}
use Rattle.std.specs.List.{AllByRecursion}
use Rattle.std.proofs.lemmas.Bool.{cases_eq, eq-eqb, ne_eqb}
use Rattle.std.proofs.lemmas.List.Elements.{All-head, All-tail}
use Rattle.rtt_booth.proofs.Append.{length-places}
use Rattle.rtt_booth.specs.Said.{IsLawful, lines_of, places, screens_by, spoken_by}
use Rattle.rtt_booth.specs.declared.said.Word.{Word}
use Rattle.rtt_terminal.proofs.Lines.{spoken_shows}
use Rattle.rtt_terminal.specs.Speech.{CanBeSaid, IsSpeech, Saying, Speech, count_said, line_of, said_by}
use Rattle.rtt_terminal.specs.Stream.{IsLine, LacksNewline, Shows}
use Rattle.shared_work.specs.Places.{AreConsecutive}

-- ---- each line is a terminal's

plain_whole : (text : List ℕ) → AllByRecursion (λ b. (32 ≤ b) × (b ≢ 127)) text → LacksNewline text
plain_whole [] h = tt
plain_whole (b ∷ text) h = ((λ e. omega (arith, h.0.0, e)), plain_whole text h.1)

is_line : (s : Saying) → CanBeSaid s → IsLine (line_of s)
is_line s can = record { one = can.one; utf8 = can.utf8; whole = plain_whole s.text can.sayable.plain }

one_of : (list : List Saying) (place : ℕ) → All CanBeSaid list → AllByRecursion IsLine (option_to_list (option_map line_of (slice_get list place)))
one_of [] place all = tt
one_of (s ∷ list) zero all = (is_line s (All-head CanBeSaid s list all), tt)
one_of (s ∷ list) (suc place) all = one_of list place (All-tail CanBeSaid s list all)

both_all : {X : Type 0} (P : X → Type 0) (xs ys : List X) → AllByRecursion P xs → AllByRecursion P ys → AllByRecursion P (xs ++ ys)
both_all P [] ys h k = k
both_all P (x ∷ xs) ys h k = (h.0, both_all P xs ys h.1 k)

are_lines : (speech : Speech) (words : List Word) → IsSpeech speech → AllByRecursion IsLine (lines_of speech words)
are_lines speech [] is = tt
are_lines speech (w ∷ words) is =
    both_all IsLine (option_to_list (option_map line_of (slice_get (said_by speech w.writer) w.place))) (lines_of speech words)
    (one_of (said_by speech w.writer) w.place (is.each w.writer)) (are_lines speech words is)

pub shown : (speech : Speech) (words : List Word) → IsSpeech speech → Shows (spoken_by speech words) (screens_by speech words)
shown speech words is = spoken_shows (lines_of speech words) (are_lines speech words is)

-- ---- each word has a line

one_there : (list : List Saying) (place : ℕ) → place < length list → length (option_to_list (option_map line_of (slice_get list place))) ≡ 1
one_there [] place below = absurd (omega arith)
one_there (s ∷ list) zero below = refl
one_there (s ∷ list) (suc place) below = one_there list place (omega arith)

-- where each writer has come so far
abbrev Follows : Speech → (ℕ → ℕ) → List Word → Type 0
Follows speech from words = (writer : ℕ) → AreConsecutive (from writer) (places writer words) × (from writer + length (places writer words) ≤ count_said speech writer)

abbrev after_one : ℕ → (ℕ → ℕ) → ℕ → ℕ
after_one this from writer = cond (eqb this writer) (from writer + 1) (from writer)

here : (w : Word) (words : List Word) → places w.writer (w ∷ words) ≡ w.place ∷ places w.writer words
here w words = rw (eq-eqb w.writer w.writer refl) refl

elsewhere : (w : Word) (words : List Word) (writer : ℕ) → (w.writer ≡ writer → ⊥) → places writer (w ∷ words) ≡ places writer words
elsewhere w words writer not = rw (ne_eqb w.writer writer not) refl

first_follows : (speech : Speech) (from : ℕ → ℕ) (w : Word) (words : List Word) → Follows speech from (w ∷ words) → (w.place ≡ from w.writer) × (w.place < count_said speech w.writer)
first_follows speech from w words follows =
    let f = follows w.writer in
    let runs = subst (λ (l : List ℕ). AreConsecutive (from w.writer) l) (here w words) f.0 in
    let many = ap length (here w words) in
    (runs.0, omega (arith, f.1, runs.0, many))

rest_follows : (speech : Speech) (from : ℕ → ℕ) (w : Word) (words : List Word) → Follows speech from (w ∷ words) → Follows speech (after_one w.writer from) words
rest_follows speech from w words follows writer = elim (cases_eq w.writer writer) [
  | inl same ↦
      let f = follows w.writer in
      let runs = subst (λ (l : List ℕ). AreConsecutive (from w.writer) l) (here w words) f.0 in
      let many = ap length (here w words) in
      subst (λ (n : ℕ). AreConsecutive (after_one w.writer from n) (places n words) × (after_one w.writer from n + length (places n words) ≤ count_said speech n)) same
      (rw (eq-eqb w.writer w.writer refl) (runs.1, omega (arith, f.1, many)))
  | inr not ↦
      let f = follows writer in
      rw (ne_eqb w.writer writer not)
      (subst (λ (l : List ℕ). AreConsecutive (from writer) l × (from writer + length l ≤ count_said speech writer)) (elsewhere w words writer not) f)
]

each_said : (speech : Speech) (from : ℕ → ℕ) (words : List Word) → Follows speech from words → length (lines_of speech words) ≡ length words
each_said speech from [] follows = refl
each_said speech from (w ∷ words) follows =
    let first = first_follows speech from w words follows in
    omega (
      arith,
      length-append (option_to_list (option_map line_of (slice_get (said_by speech w.writer) w.place))) (lines_of speech words),
      one_there (said_by speech w.writer) w.place first.1,
      each_said speech (after_one w.writer from) words (rest_follows speech from w words follows),
    )

pub all_said : (speech : Speech) (words : List Word) → IsLawful speech words → length (lines_of speech words) ≡ length words
all_said speech words is =
    each_said speech (λ writer. 0) words (λ writer. (is.order writer, let h = is.within writer in omega (arith, h, length-places writer words)))
