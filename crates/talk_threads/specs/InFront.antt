-- Which step comes next in a writer's lines.
use Rattle.std.specs.Prelude.{◌≤◌, ◌<◌, ◌⊎◌, ℕ, Option, Some, None, slice_get}
use Rattle.rtt_terminal.specs.Speech.{Saying, Speech, said_by}

-- how many statements stand in front of a text, none where there is no text
abbrev pub in_front : Option Saying → ℕ
in_front None = 0
in_front (Some s) = s.behind

-- A writer that said so many of its texts logs its statement at a place: all texts are said, or the next one stands behind it.
abbrev pub LogsNext : Speech → ℕ → ℕ → ℕ → ℕ → Type 0
LogsNext speech writer place said texts = (texts ≤ said) ⊎ (place < in_front (slice_get (said_by speech writer) said))

-- A writer that logged so many of its statements says its text at a place: all statements are logged, or at least those in front of it.
abbrev pub SaysNext : Speech → ℕ → ℕ → ℕ → ℕ → Type 0
SaysNext speech writer place logged statements = (statements ≤ logged) ⊎ (in_front (slice_get (said_by speech writer) place) ≤ logged)

-- each step may be done that comes next in its writer's lines
pub record InOrder (speech : Speech) (logs says : ℕ → ℕ → ℕ → ℕ → Type 0) : Type 0 where
  pub statement : (writer place said texts : ℕ) → LogsNext speech writer place said texts → logs writer place said texts
  pub text : (writer place logged statements : ℕ) → SaysNext speech writer place logged statements → says writer place logged statements
