-- What is told of a fault.
use Rattle.std.proofs.Common.{◌≡◌, ◌≤◌, ◌++◌, ◌∷◌, [], ◌⊎◌, ℕ, zero, suc, List, inl, inr, arith}
use Rattle.dl_io.specs.Outside.{Rose}
use Rattle.defmt_cli.specs.Ends.{SaysBy, Tells}
use Rattle.defmt_listen.specs.Streams.{Output, Wrote}

-- at status 0
pub says_none : (status : ℕ) (text : List ℕ) (errors : Output) → status ≡ 0 → Wrote errors [] → SaysBy status text errors
says_none zero text errors is none = none
says_none (suc status) text errors is none = absurd (omega (arith, is))

-- at each other status
pub says_text : (status : ℕ) (text : List ℕ) (errors : Output) → (status ≡ 0 → ⊥) → Tells text errors → SaysBy status text errors
says_text zero text errors some told = absurd (some (omega arith))
says_text (suc status) text errors some told = inl told

pub says_nothing : (status : ℕ) (text : List ℕ) (errors : Output) → Wrote errors [] → SaysBy status text errors
says_nothing zero text errors none = none
says_nothing (suc status) text errors none = inr none

-- the second of two writes failed
pub rose_later : (before middle after : ℕ) → before ≤ middle → Rose middle after → Rose before after
rose_later before middle after later rose = omega (arith, later, rose)
