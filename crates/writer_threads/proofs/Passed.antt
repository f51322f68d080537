-- What a gate was asked, or was told, from one number to another and on from there.
use Rattle.std.proofs.Common.{◌≡◌, ℕ, ◌<◌, ◌≤◌, ◌+◌, inl, inr, arith}
use Rattle.std.proofs.Math.Logic.{∥∥₁_elim, ∥∥₁_map, ∥∥₁_prop}
use Rattle.std.proofs.lemmas.Bool.Decides.{leb_tells}
use Rattle.writer_threads.specs.Passing.{Means, PassedAll, ToldAll, WasPassed, WasTold}

-- whatever a gate shows is shown
pub means_itself : (shown : ℕ → Type 0) → Means shown shown
means_itself shown = let same : (n : ℕ) → shown n → shown n = λ n s. s in ∣ same ∣₁

-- at no place
pub passed_none : (passed : ℕ → Type 0) (a b : ℕ) → a ≡ b → WasPassed passed a b
passed_none passed a b e = let none : PassedAll passed a b = λ place from to. absurd (omega (arith, e, from, to)) in ∣ none ∣₁

passed_on : (passed shown : ℕ → Type 0) (a b c : ℕ) → ((place : ℕ) → shown place → passed place) → PassedAll passed a b → PassedAll shown b c → PassedAll passed a c
passed_on passed shown a b c means p q = λ place from to. elim (leb_tells b place) [
  | inl behind ↦ means place (q place behind.1 to)
  | inr before ↦ p place from before.1
]

pub all_passed_on : (passed : ℕ → Type 0) (a b c : ℕ) → PassedAll passed a b → PassedAll passed b c → PassedAll passed a c
all_passed_on passed a b c p q = passed_on passed passed a b c (λ place shown. shown) p q

pub was_passed_on : (passed shown : ℕ → Type 0) (a b c : ℕ) → Means shown passed → WasPassed passed a b → WasPassed shown b c → WasPassed passed a c
was_passed_on passed shown a b c means p q =
    ∥∥₁_elim means ∥∥₁_prop (λ m. ∥∥₁_elim p ∥∥₁_prop (λ h. ∥∥₁_map q (λ k. passed_on passed shown a b c m h k)))

-- what was shown is what was named
pub was_passed_as : (passed shown : ℕ → Type 0) (a b : ℕ) → Means shown passed → PassedAll shown a b → WasPassed passed a b
was_passed_as passed shown a b means p = ∥∥₁_map means (λ m place from to. m place (p place from to))

told_on : (told shown : ℕ → Type 0) (a b c : ℕ) → b ≤ c → ((total : ℕ) → shown total → told total) → ToldAll told a b → ToldAll shown b c → ToldAll told a c
told_on told shown a b c le means p q = λ count from to. elim (leb_tells count b) [
  | inl before ↦ (let t = p count from before.1 in (t.0, t.1, t.2, t.3, omega (arith, t.4, le)))
  | inr behind ↦ (let t = q count behind.1 to in (t.0, means t.0 t.1, t.2, t.3, t.4))
]

pub all_told_on : (told : ℕ → Type 0) (a b c : ℕ) → b ≤ c → ToldAll told a b → ToldAll told b c → ToldAll told a c
all_told_on told a b c le p q = told_on told told a b c le (λ n s. s) p q

pub was_told_on : (told shown : ℕ → Type 0) (a b c : ℕ) → b ≤ c → Means shown told → WasTold told a b → WasTold shown b c → WasTold told a c
was_told_on told shown a b c le means p q =
    ∥∥₁_elim means ∥∥₁_prop (λ m. ∥∥₁_elim p ∥∥₁_prop (λ h. ∥∥₁_map q (λ k. told_on told shown a b c le m h k)))

-- nothing was captured
pub told_none : (told : ℕ → Type 0) (a b : ℕ) → b ≤ a → WasTold told a b
told_none told a b le = let none : ToldAll told a b = λ count from to. absurd (omega (arith, le, from, to)) in ∣ none ∣₁

-- all places of a writer that has n steps, where the first of them were done by its thread, and the others behind it
pub asked_of_all : (passed shown : ℕ → Type 0) (a b c n : ℕ) → a ≡ 0 → c ≡ n → Means shown passed → WasPassed shown a b → WasPassed passed b c → WasPassed passed 0 n
asked_of_all passed shown a b c n first all means p q =
    let front : WasPassed passed a b = ∥∥₁_elim means ∥∥₁_prop (λ m. ∥∥₁_map p (λ k place from to. m place (k place from to))) in
    let whole : WasPassed passed a c = was_passed_on passed passed a b c (means_itself passed) front q in
    ∥∥₁_map whole (λ k place from to. k place (omega (arith, first)) (omega (arith, to, all)))

-- and where all were done so
pub asked_from_first : (passed : ℕ → Type 0) (a b n : ℕ) → a ≡ 0 → b ≡ n → WasPassed passed a b → WasPassed passed 0 n
asked_from_first passed a b n first all p = ∥∥₁_map p (λ k place from to. k place (omega (arith, first)) (omega (arith, to, all)))
