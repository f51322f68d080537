-- What a report has gathered, and what is known of the text behind it.
use Rattle.std.specs.Prelude.{◌≤◌, ℕ, List, ◌++◌, length, take}
use Rattle.defmt_framing.specs.declared.notice.Notice.{Notice}
use Rattle.defmt_framing.specs.declared.notice.Notice.TheVariants as notices
use Rattle.defmt_listen.specs.declared.report.Report.{Report}

-- the lines, and behind them the front of the buffer
abbrev pub gathered : Report → List ℕ
gathered report = report.lines.items ++ take report.end report.text.items

-- the buffer is at least as long as that front
abbrev pub IsGathered : Report → Type 0
IsGathered report = report.end ≤ length report.text.items

-- this is known of the text of a line at the front of a buffer
abbrev pub IsKnownText : {E O : Type 0} → (List ℕ → Type 0) → List ℕ → Notice E O → Type 0
IsKnownText known buffer notices.Nothing = Unit {0}
IsKnownText known buffer (notices.Event event) = Unit {0}
IsKnownText known buffer (notices.Line origin size) = known (take size buffer)
