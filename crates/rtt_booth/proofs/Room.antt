-- No more words are said than there are texts.
use Rattle.std.proofs.Common.{◌≡◌, ℕ, suc, ◌+◌, ◌-◌, ◌≤◌, List, [], ◌∷◌, Bool, true, false, ◌==◌, length, refl, sym, subst, arith, zero-add}
use Rattle.std.specs.Prelude.{if◌then◌else◌, slice_index_or, nat_le}
use Rattle.std.proofs.lemmas.Bool.Decides.{nat_tests}
use Rattle.rtt_booth.specs.Said.{words_of}
use Rattle.rtt_booth.specs.declared.said.Word.{Word}
use Rattle.rtt_terminal.specs.Speech.{Speech, count_said, count_texts}
use Rattle.shared_work.proofs.Counted.{grows, none_there, one_more}

-- the words of the writers from w on
abbrev words_from : ℕ → List Word → ℕ
words_from w [] = 0
words_from w (v ∷ vs) = if nat_le w v.writer then words_from w vs + 1 else words_from w vs

from_next : (w : ℕ) (words : List Word) → words_from w words ≡ words_of w words + words_from (w + 1) words
from_next w [] = refl
from_next w (v ∷ vs) = one_more w v.writer (words_from w vs) (words_of w vs) (words_from (w + 1) vs) (from_next w vs)

none_from : (w : ℕ) (words : List Word) → ((v : ℕ) → w ≤ v → words_of v words ≤ 0) → words_from w words ≤ 0
none_from w [] none = omega arith
none_from w (v ∷ vs) none =
    none_there w v.writer (words_from w vs) (words_of v.writer vs) (none v.writer)
    (none_from w vs (λ n le. omega (arith, none n le, grows n v.writer (words_of n vs))))

fits_from : (ws : Speech) (w : ℕ) (words : List Word) → ((i : ℕ) → words_of (w + i) words ≤ length (slice_index_or ws i [])) → words_from w words ≤ count_texts ws
fits_from [] w words within =
    none_from w words (λ v le.
    let P : ℕ → Type 0 = λ k. words_of k words ≤ 0 in
    let there : w + (v - w) ≡ v = omega (arith, le) in
    subst P there (within (v - w)))
fits_from (l ∷ ws) w words within =
    let P : ℕ → Type 0 = λ k. words_of k words ≤ length l in
    let none_added : w + 0 ≡ w = omega arith in
    let here : words_of w words ≤ length l = subst P none_added (within 0) in
    let more : words_from (w + 1) words ≤ count_texts ws = fits_from ws (w + 1) words (λ i.
    let Q : ℕ → Type 0 = λ k. words_of k words ≤ length (slice_index_or ws i []) in
    let moved : w + suc i ≡ (w + 1) + i = omega arith in
    subst Q moved (within (suc i))) in
    omega (arith, here, more, from_next w words)

all_from : (words : List Word) → words_from 0 words ≡ length words
all_from [] = refl
all_from (v ∷ vs) = let more : words_from 0 vs ≡ length vs = all_from vs in grind (arith, nat_tests)

pub words_fit : (speech : Speech) (words : List Word) → ((w : ℕ) → words_of w words ≤ count_said speech w) → length words ≤ count_texts speech
words_fit speech words within =
    let all : words_from 0 words ≤ count_texts speech = fits_from speech 0 words (λ i.
    let P : ℕ → Type 0 = λ k. words_of k words ≤ length (slice_index_or speech i []) in
    subst P (sym (zero-add i)) (within i)) in
    omega (arith, all, all_from words)
