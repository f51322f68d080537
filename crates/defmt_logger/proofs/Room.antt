-- A tape has no more marks than its script has statements.
use Rattle.std.proofs.Common.{◌≡◌, ℕ, zero, suc, ◌+◌, ◌≤◌, List, [], ◌∷◌, ◌==◌, drop, length, length-drop, refl, ap, arith, if◌then◌else◌, slice_index_or}
use Rattle.std.proofs.lemmas.Bool.Decides.{nat_tests}
use Rattle.defmt_frames.specs.Frames.{count}
use Rattle.defmt_logger.specs.declared.mark.Mark.{Mark}
use Rattle.defmt_logger.specs.Tape.{marks_of}
use Rattle.defmt_script.specs.Script.{Script, count_all}
use Rattle.defmt_values.specs.declared.value.Statement.{Statement}

-- the statements without the first of writer w
abbrev without : List (List Statement) → ℕ → List (List Statement)
without [] w = []
without (l ∷ ws) zero = drop 1 l ∷ ws
without (l ∷ ws) (suc w) = l ∷ without ws w

all_without : (ws : List (List Statement)) (w n : ℕ) → n + 1 ≤ length (slice_index_or ws w []) → count_all (without ws w) + 1 ≤ count_all ws
all_without [] w n some = absurd (omega (arith, some))
all_without (l ∷ ws) zero n some = omega (arith, some, length-drop 1 l)
all_without (l ∷ ws) (suc w) n some = omega (arith, all_without ws w n some)

left_without : (ws : List (List Statement)) (w v n : ℕ) → n ≤ length (slice_index_or ws v []) → (w ≡ v → n + 1 ≤ length (slice_index_or ws v [])) → n ≤ length (slice_index_or (without ws w) v [])
left_without [] w v n le more = le
left_without (l ∷ ws) zero zero n le more = omega (arith, more refl, length-drop 1 l)
left_without (l ∷ ws) zero (suc v) n le more = le
left_without (l ∷ ws) (suc w) zero n le more = le
left_without (l ∷ ws) (suc w) (suc v) n le more = left_without ws w v n le (λ same. more (ap suc same))

one_less : (x v n k : ℕ) → (if x == v then n + 1 else n) ≤ k → (n ≤ k) × (x ≡ v → n + 1 ≤ k)
one_less x v n k le = (grind (arith, nat_tests), λ same. grind (arith, nat_tests))

fits : (ws : List (List Statement)) (tape : List Mark) → ((w : ℕ) → marks_of w tape ≤ length (slice_index_or ws w [])) → length tape ≤ count_all ws
fits ws [] within = omega arith
fits ws (m ∷ ms) within =
    let at : (v : ℕ) → (marks_of v ms ≤ length (slice_index_or ws v [])) × (m.writer ≡ v → marks_of v ms + 1 ≤ length (slice_index_or ws v [])) = λ v. one_less m.writer v (marks_of v ms) _ (within v) in
    let more : length ms ≤ count_all (without ws m.writer) = fits (without ws m.writer) ms (λ v. left_without ws m.writer v (marks_of v ms) (at v).0 (at v).1) in
    omega (arith, more, all_without ws m.writer (marks_of m.writer ms) ((at m.writer).1 refl))

pub tape_fits : (s : Script) (tape : List Mark) → ((w : ℕ) → marks_of w tape ≤ count s w) → length tape ≤ count_all s.writers
tape_fits s tape within = fits s.writers tape within

pub marks_within : (w : ℕ) (tape : List Mark) → marks_of w tape ≤ length tape
marks_within w [] = omega arith
marks_within w (m ∷ ms) = let le : marks_of w ms ≤ length ms = marks_within w ms in grind (arith, nat_tests)
