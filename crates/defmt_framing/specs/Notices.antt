-- What a notice tells, where the text of a line stands behind a place of a buffer. The definitions take what lies behind the place.
use Rattle.std.specs.Prelude.{◌≤◌, ℕ, List, length, take, Option, Some, None}
use Rattle.defmt_framing.specs.declared.notice.Notice.{Notice}
use Rattle.defmt_framing.specs.declared.notice.Notice.TheVariants as notices

-- by the line that an origin and a text make
abbrev pub told_by : {E O : Type 0} → (O → List ℕ → E) → List ℕ → Notice E O → Option E
told_by line buffer notices.Nothing = None
told_by line buffer (notices.Event event) = Some event
told_by line buffer (notices.Line origin size) = Some (line origin (take size buffer))

-- the buffer has as many bytes as the text of a line
abbrev pub HasText : {E O : Type 0} → List ℕ → Notice E O → Type 0
HasText buffer notices.Nothing = Unit {0}
HasText buffer (notices.Event event) = Unit {0}
HasText buffer (notices.Line origin size) = size ≤ length buffer
