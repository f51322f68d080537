-- What `find` answers.
use Rattle.std.specs.Prelude.{◌≡◌, ◌⊎◌, ◌<◌, ℕ, List}
use Rattle.rtt_control.specs.declared.fault.Cause.TheVariants.{NoId, TwoIds}
use Rattle.rtt_control.specs.declared.fault.ControlFault.{ControlFault}
use Rattle.rtt_control.specs.Checks.{HasId, refused}

-- it holds at this place and at no other
pub record IsOnly (P : ℕ → Type 0) (at : ℕ) : Type 0 where
  pub here : P at
  pub alone : (other : ℕ) → P other → other ≡ at

-- it holds at this place and at just one before it
pub record IsSecond (P : ℕ → Type 0) (at : ℕ) : Type 0 where
  pub here : P at
  pub first : ℕ
  pub before : first < at
  pub there : P first
  pub alone : (other : ℕ) → other < at → P other → other ≡ first

-- no ID stands in the image, or a second one
abbrev pub IsFindFault : List ℕ → ControlFault → Type 0
IsFindFault image fault = ((fault ≡ refused NoId 0) × ((at : ℕ) → HasId image at → ⊥))
    ⊎ ((at : ℕ) × (fault ≡ refused TwoIds at) × IsSecond (HasId image) at)
