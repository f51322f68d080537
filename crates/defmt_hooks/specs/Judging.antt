-- Judges that go by rules.
use Rattle.std.specs.Prelude.{◌≡◌, ℕ, List, Bool}
use Rattle.defmt_hooks.specs.declared.level.Level.{Level}
use Rattle.defmt_hooks.specs.declared.rules.Rules.{Rules}
use Rattle.defmt_hooks.specs.Kept.{keeps}

-- A judge may be asked about each level and package, and answers whether the rules keep such a message. `ready` says about
-- what it may be asked, and `gives` what it may answer.
pub record JudgesBy (rules : Rules) (ready : Level → List ℕ → Type 0)
    (gives : Level → List ℕ → Bool → Type 0) : Type 0 where
  pub may : (level : Level) (name : List ℕ) → ready level name
  pub answers : (level : Level) (name : List ℕ) (answer : Bool) → gives level name answer
      → answer ≡ keeps rules level name

-- A judge of this type gave this answer about a level and a package. Nothing but asking a judge shows it.
abbrev pub SomeJudgeGave : {J : Type 0} → (J → Level → List ℕ → Bool → Type 0) → Level → List ℕ → Bool → Type 0
SomeJudgeGave {J} gives level name answer = (judge : J) × gives judge level name answer
