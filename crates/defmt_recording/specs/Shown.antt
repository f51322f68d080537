-- What events print as text, where rules say which lines are shown: the others are left out, and nothing else changes.
use Rattle.std.specs.Prelude.{ℕ, List, Option, None}
use Rattle.std.specs.FinMap as map
use Rattle.defmt_decode.specs.declared.event.Event.{Event}
use Rattle.defmt_hooks.specs.declared.rules.Rules.{Rules}
use Rattle.defmt_intern.specs.Table.{Map}
use Rattle.defmt_recording.specs.Styled.{Look, look_by, shown_text, styled_lines_from}
use Rattle.defmt_words.specs.Style.{plain_style}
use Rattle.defmt_words.specs.declared.style.Style.{Style}

-- text, by rules where there are some
abbrev pub plain_by : Option Rules → Style
plain_by only = record plain_style { only = only }

-- by a table, without places in the sources
abbrev pub plain_look : Option Rules → Map → Look
plain_look only table = look_by (plain_by only) table map.empty

-- an event's line, and nothing of a line that isn't shown
abbrev pub kept_event : Option Rules → Map → Event → List ℕ
kept_event only table event = shown_text (plain_look only table) event

-- what events print behind a line with this place
abbrev pub event_lines_from : Option Rules → Map → Option ℕ → List Event → List ℕ
event_lines_from only table last events = styled_lines_from (plain_look only table) last events

-- what a list of events prints
abbrev pub event_lines_by : Option Rules → Map → List Event → List ℕ
event_lines_by only table events = event_lines_from only table None events
