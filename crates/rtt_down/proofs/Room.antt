-- There are no more turns than statements.
use Rattle.std.proofs.Common.{◌≡◌, ℕ, suc, ◌+◌, ◌-◌, ◌≤◌, List, [], ◌∷◌, Bool, true, false, ◌==◌, length, refl, sym, subst, arith, zero-add}
use Rattle.std.specs.Prelude.{if◌then◌else◌, slice_index_or, nat_le}
use Rattle.std.proofs.lemmas.Bool.Decides.{nat_tests}
use Rattle.defmt_frames.specs.Frames.{count}
use Rattle.defmt_script.specs.Script.{Script, count_all}
use Rattle.defmt_values.specs.declared.value.Statement.{Statement}
use Rattle.rtt_down.specs.Steered.{turns_of}
use Rattle.rtt_down.specs.declared.turn.Turn.{Turn}
use Rattle.shared_work.proofs.Counted.{grows, none_there, one_more}

-- the turns of the writers from w on
abbrev turns_from : ℕ → List Turn → ℕ
turns_from w [] = 0
turns_from w (m ∷ ms) = if nat_le w m.writer then turns_from w ms + 1 else turns_from w ms

from_next : (w : ℕ) (turns : List Turn) → turns_from w turns ≡ turns_of w turns + turns_from (w + 1) turns
from_next w [] = refl
from_next w (m ∷ ms) = one_more w m.writer (turns_from w ms) (turns_of w ms) (turns_from (w + 1) ms) (from_next w ms)

none_from : (w : ℕ) (turns : List Turn) → ((v : ℕ) → w ≤ v → turns_of v turns ≤ 0) → turns_from w turns ≤ 0
none_from w [] none = omega arith
none_from w (m ∷ ms) none =
    none_there w m.writer (turns_from w ms) (turns_of m.writer ms) (none m.writer)
    (none_from w ms (λ v le. omega (arith, none v le, grows v m.writer (turns_of v ms))))

fits_from : (ws : List (List Statement)) (w : ℕ) (turns : List Turn) → ((i : ℕ) → turns_of (w + i) turns ≤ length (slice_index_or ws i [])) → turns_from w turns ≤ count_all ws
fits_from [] w turns within =
    none_from w turns (λ v le.
    let P : ℕ → Type 0 = λ k. turns_of k turns ≤ 0 in
    let there : w + (v - w) ≡ v = omega (arith, le) in
    subst P there (within (v - w)))
fits_from (l ∷ ws) w turns within =
    let P : ℕ → Type 0 = λ k. turns_of k turns ≤ length l in
    let none_added : w + 0 ≡ w = omega arith in
    let here : turns_of w turns ≤ length l = subst P none_added (within 0) in
    let more : turns_from (w + 1) turns ≤ count_all ws = fits_from ws (w + 1) turns (λ i.
    let Q : ℕ → Type 0 = λ k. turns_of k turns ≤ length (slice_index_or ws i []) in
    let moved : w + suc i ≡ (w + 1) + i = omega arith in
    subst Q moved (within (suc i))) in
    omega (arith, here, more, from_next w turns)

all_from : (turns : List Turn) → turns_from 0 turns ≡ length turns
all_from [] = refl
all_from (m ∷ ms) = let more : turns_from 0 ms ≡ length ms = all_from ms in grind (arith, nat_tests)

pub turns_fit : (s : Script) (turns : List Turn) → ((w : ℕ) → turns_of w turns ≤ count s w) → length turns ≤ count_all s.writers
turns_fit s turns within =
    let all : turns_from 0 turns ≤ count_all s.writers = fits_from s.writers 0 turns (λ i.
    let P : ℕ → Type 0 = λ k. turns_of k turns ≤ length (slice_index_or s.writers i []) in
    subst P (sym (zero-add i)) (within i)) in
    omega (arith, all, all_from turns)

at_most : (w x b n : ℕ) → b ≤ n → (if x == w then b + 1 else b) ≤ n + 1
at_most w x b n le = elim (x == w) as (λ (c : Bool). (if c then b + 1 else b) ≤ n + 1) [ true ↦ omega (arith, le) | false ↦ omega (arith, le) ]

pub turns_within : (w : ℕ) (turns : List Turn) → turns_of w turns ≤ length turns
turns_within w [] = omega arith
turns_within w (m ∷ ms) =
    let le : turns_of w ms ≤ length ms = turns_within w ms in
    let both : (if m.writer == w then turns_of w ms + 1 else turns_of w ms) ≤ length ms + 1 = at_most w m.writer (turns_of w ms) (length ms) le in
    omega (arith, both)
