-- The marks of a lawful tape stand for statements of the script.
use Rattle.std.proofs.Common.{◌≡◌, ◌≤◌, ◌<◌, ◌+◌, ◌^◌, ◌==◌, ℕ, zero, suc, List, [], ◌∷◌, ◌++◌, Bool, true, false, length, refl, sym, subst, ◌∙◌, ap, arith, eq-eqb, append_assoc, length-append}
use Rattle.std.specs.Prelude.{if◌then◌else◌, Some, None, slice_get}
use Rattle.std.proofs.Math.Nat.{mul-le-mul_left}
use Rattle.defmt_frames.specs.Frames.{count, first_stamp, stamp_number, stamp_step}
use Rattle.defmt_lines.specs.declared.settings.RingMode.TheVariants.{Trim}
use Rattle.defmt_logger.proofs.Room.{tape_fits}
use Rattle.defmt_logger.specs.Tape.{FateLaw, IsLawful as IsLawfulTape, mark_frame, marks_of, places}
use Rattle.defmt_logger.specs.declared.mark.Mark.{Mark}
use Rattle.defmt_print.specs.Heard.{IsWhole}
use Rattle.defmt_print.specs.Printed.{ArePlaced}
use Rattle.defmt_script.specs.Lawful.{IsLawful}
use Rattle.defmt_script.specs.Script.{Script}
use Rattle.defmt_values.specs.declared.value.Statement.{Statement}
use Rattle.rtt_modes.specs.declared.fate.Fate.{Fate}
use Rattle.rtt_modes.specs.declared.fate.Fate.TheVariants.{Whole, Dropped, Cut}
use Rattle.shared_work.specs.Places.{AreConsecutive}

-- ---- places

first_place : (b : Bool) (from x n most : ℕ) (xs : List ℕ) → b ≡ true → AreConsecutive from (if b then x ∷ xs else xs) → from + (if b then n + 1 else n) ≤ most → x < most
first_place true from x n most xs is runs fits = omega (arith, runs.0, fits)
first_place false from x n most xs is runs fits = absurd (cc is)

runs_on : (b : Bool) (from x : ℕ) (xs : List ℕ) → AreConsecutive from (if b then x ∷ xs else xs) → AreConsecutive (if b then from + 1 else from) xs
runs_on true from x xs runs = runs.1
runs_on false from x xs runs = runs

fits_on : (b : Bool) (from n most : ℕ) → from + (if b then n + 1 else n) ≤ most → (if b then from + 1 else from) + n ≤ most
fits_on true from n most fits = omega (arith, fits)
fits_on false from n most fits = fits

-- where each writer's marks go on from its own place
pub placed_from : (s : Script) (start : ℕ → ℕ) (tape : List Mark) → ((w : ℕ) → AreConsecutive (start w) (places w tape)) → ((w : ℕ) → start w + marks_of w tape ≤ count s w) → ArePlaced s tape
placed_from s start [] order within = tt
placed_from s start (m ∷ ms) order within = (
  first_place (m.writer == m.writer) (start m.writer) m.place (marks_of m.writer ms) (count s m.writer) (places m.writer ms) (eq-eqb m.writer m.writer refl) (order m.writer) (within m.writer),
  placed_from s (λ v. if m.writer == v then start v + 1 else start v) ms
      (λ v. runs_on (m.writer == v) (start v) m.place (places v ms) (order v))
      (λ v. fits_on (m.writer == v) (start v) (marks_of v ms) (count s v) (within v)),
)

pub are_placed : (s : Script) (tape : List Mark) → IsLawfulTape s tape → ArePlaced s tape
are_placed s tape lawful = placed_from s (λ w. 0) tape lawful.order (λ w. omega (arith, lawful.within w))

-- ---- statements

pub there : (xs : List Statement) (k : ℕ) → k < length xs → (stm : Statement) × (slice_get xs k ≡ Some stm)
there [] k within = absurd (omega (arith, within))
there (x ∷ xs) zero within = (x, refl)
there (x ∷ xs) (suc k) within = there xs k (omega (arith, within))

pub is_there : (xs : List Statement) (k : ℕ) → k < length xs → None ≡ slice_get xs k → ⊥
is_there xs k within none = let found = there xs k within in let e : None ≡ Some found.0 = none ∙ found.1 in cc e

-- ---- what the lines of a tape need

abbrev pub IsKept : Fate → Type 0
IsKept Whole = Unit {0}
IsKept (Dropped need room) = Unit {0}
IsKept (Cut need room) = ⊥

-- the mark has a statement and a stamp of 64 bits, and its frame wasn't cut
pub record IsGood (s : Script) (m : Mark) : Type 0 where
  pub placed : m.place < count s m.writer
  pub small : m.stamp < 2 ^ 64
  pub kept : IsKept m.fate

abbrev pub AreGood : Script → List Mark → Type 0
AreGood s [] = Unit {0}
AreGood s (m ∷ ms) = IsGood s m × AreGood s ms

not_cut : (s : Script) (before : List Mark) (frame : List ℕ) (fate : Fate) → (s.settings.mode ≡ Trim → ⊥) → FateLaw s.settings.mode s before frame fate → IsKept fate
not_cut s before frame Whole mode law = tt
not_cut s before frame (Dropped need room) mode law = tt
not_cut s before frame (Cut need room) mode law = mode law.0

pub small_stamp : (s : Script) (t : ℕ) → first_stamp s.settings.stamp ≤ 281474976710656 → stamp_step s.settings.stamp ≤ 281474976710656 → t ≤ 4096 → stamp_number s t < 2 ^ 64
small_stamp s t base step few =
    omega (arith, base, mul-le-mul_left (stamp_step s.settings.stamp) few, step)

good_from : (s : Script) (tape front rest : List Mark) → IsLawfulTape s tape → length tape ≤ 4096 → (s.settings.mode ≡ Trim → ⊥)
    → first_stamp s.settings.stamp ≤ 281474976710656 → stamp_step s.settings.stamp ≤ 281474976710656 → tape ≡ front ++ rest → ArePlaced s rest → AreGood s rest
good_from s tape front [] lawful few mode base step is placed = tt
good_from s tape front (m ∷ ms) lawful few mode base step is placed =
    let before : length front ≤ 4096 = omega (arith, few, ap length is, length-append front (m ∷ ms)) in (
      record {
        placed = placed.0;
        small = subst (λ (n : ℕ). n < 2 ^ 64) (sym (lawful.stamps front ms m is)) (small_stamp s (length front) base step before);
        kept = not_cut s front (mark_frame s (length front) m) m.fate mode (lawful.fates front ms m is);
      },
      good_from s tape (front ++ m ∷ []) ms lawful few mode base step (is ∙ sym (append_assoc front (m ∷ []) ms)) placed.1,
    )

pub few_marks : (s : Script) (tape : List Mark) → IsLawful s → IsLawfulTape s tape → length tape ≤ 4096
few_marks s tape script lawful = omega (arith, tape_fits s tape lawful.within, script.few)

-- each mark of a tape is good, unless the mode is trim
pub are_good : (s : Script) (tape : List Mark) → IsLawful s → IsLawfulTape s tape → (s.settings.mode ≡ Trim → ⊥)
    → first_stamp s.settings.stamp ≤ 281474976710656 → stamp_step s.settings.stamp ≤ 281474976710656 → AreGood s tape
are_good s tape script lawful mode base step = good_from s tape [] tape lawful (few_marks s tape script lawful) mode base step refl (are_placed s tape lawful)

-- ---- one mark among the others

pub placed_at : (s : Script) (before after : List Mark) (m : Mark) → ArePlaced s (before ++ m ∷ after) → m.place < count s m.writer
placed_at s [] after m placed = placed.0
placed_at s (x ∷ before) after m placed = placed_at s before after m placed.1

-- a mark is good in each mode whose frame was sent whole
pub good_whole : (s : Script) (tape before after : List Mark) (m : Mark) → IsLawful s → IsLawfulTape s tape
    → first_stamp s.settings.stamp ≤ 281474976710656 → stamp_step s.settings.stamp ≤ 281474976710656 → tape ≡ before ++ m ∷ after → IsWhole m → IsGood s m
good_whole s tape before after m script lawful base step is whole =
    let few : length before ≤ 4096 = omega (arith, few_marks s tape script lawful, ap length is, length-append before (m ∷ after)) in
    record {
      placed = placed_at s before after m (subst (ArePlaced s) is (are_placed s tape lawful));
      small = subst (λ (n : ℕ). n < 2 ^ 64) (sym (lawful.stamps before after m is)) (small_stamp s (length before) base step few);
      kept = subst IsKept (sym whole) tt;
    }
