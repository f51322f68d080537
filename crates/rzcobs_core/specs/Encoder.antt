-- What callers see of an encoder.
use Rattle.std.specs.Prelude.{◌≡◌, ℕ, List}
use Rattle.std.specs.Borrow.{MutBor}
use Rattle.rzcobs_core.specs.Encodes.{Encodes, WritesOn}
use Rattle.rzcobs_core.specs.declared.encoder.Encoder.{Encoder}

-- the buffer that it writes
abbrev pub buffer_of : Encoder → List ℕ
buffer_of encoder = encoder.out.now

-- it writes the buffer that was lent by this reference
abbrev pub WritesTo : Encoder → MutBor (List ℕ) → Type 0
WritesTo encoder lent = encoder.out.ghost_name ≡ lent.ghost_name

-- the reference stays the same
abbrev pub SameBuffer : Encoder → Encoder → Type 0
SameBuffer old new = new.out.ghost_name ≡ old.out.ghost_name

-- the buffer, as whatever writes through a lent one gives it back at its end
abbrev pub buffer_left : {A : Type 0} → MutBor (List ℕ) × A → List ℕ
buffer_left exit = exit.0.now

-- these bytes were put to it
abbrev pub Holds : Encoder → List ℕ → Type 0
Holds encoder message = Encodes encoder.out.now encoder.stored encoder.count encoder.zeros message

-- It writes on, and leaves what lies behind as it was.
abbrev pub GoesOn : Encoder → Encoder → Type 0
GoesOn old new = WritesOn old.stored old.out.now new.stored new.out.now

-- It ended with so many bytes of code in its buffer, and leaves what lies behind them as it was.
abbrev pub EndsWith : Encoder → ℕ → List ℕ → Type 0
EndsWith encoder count out = WritesOn encoder.stored encoder.out.now count out
