-- What events print by rules, one more at a time.
use Rattle.std.proofs.Common.{◌≡◌, ◌∙◌, ◌++◌, ℕ, Bool, List, [], ◌∷◌, Option, Some, None, cond, refl, ap}
use Rattle.std.specs.FinMap as map
use Rattle.std.specs.Ordering.{nat_cmp}
use Rattle.std.proofs.lemmas.List.{append-nil}
use Rattle.defmt_decode.specs.declared.event.Event.{Event}
use Rattle.defmt_decode.specs.declared.event.Event.TheVariants.{Line}
use Rattle.defmt_forms.specs.Names.{place_part}
use Rattle.defmt_hooks.specs.declared.rules.Rules.{Rules}
use Rattle.defmt_intern.specs.Table.{Map}
use Rattle.defmt_plan.specs.declared.message.Parts.{Parts}
use Rattle.defmt_recording.specs.Output.{ended, gap_before, gap_between, gap_line, last_behind}
use Rattle.defmt_recording.specs.Shown.{event_lines_from, kept_event}
use Rattle.defmt_recording.specs.Styled.{is_printed, shown_text, styled_gap, styled_line, styled_text}
use Rattle.defmt_print.specs.Shown.{kept_line, shows_by, shows_index}
use Rattle.defmt_values.specs.declared.value.Statement.{Statement}

pub no_events : (only : Option Rules) (table : Map) (last : Option ℕ) → event_lines_from only table last [] ≡ []
no_events only table last = refl

pub one_event : (only : Option Rules) (table : Map) (last : Option ℕ) (event : Event) (events : List Event)
    → event_lines_from only table last (event ∷ events)
    ≡ (gap_line (gap_before last event) ++ kept_event only table event) ++ event_lines_from only table (last_behind last event) events
unfolding styled_line styled_gap
one_event only table last event events = refl

-- a line that is shown is its text and a newline
kept_is : (only : Option Rules) (table : Map) (index : ℕ) (place : Option ℕ) (parts : Parts) (text : List ℕ)
    → kept_event only table (Line index place parts text) ≡ kept_line (shows_index only table index) text
unfolding shown_text is_printed styled_text
kept_is only table index place parts text =
    ap (λ (o : Option (List ℕ)). cond {A = List ℕ} (shows_index only table index) (ended (text ++ place_part o)) []) (map.get-empty nat_cmp index)
    ∙ ap (λ (l : List ℕ). cond {A = List ℕ} (shows_index only table index) (ended l) []) (append-nil text)

-- one line more
pub one_line : (only : Option Rules) (table : Map) (last : Option ℕ) (index : ℕ) (place : Option ℕ) (parts : Parts) (text : List ℕ) (events : List Event)
    → event_lines_from only table last (Line index place parts text ∷ events)
    ≡ (gap_line (gap_between last place) ++ kept_line (shows_index only table index) text) ++ event_lines_from only table place events
unfolding gap_before last_behind
one_line only table last index place parts text events =
    one_event only table last (Line index place parts text) events
    ∙ ap (λ (l : List ℕ). (gap_line (gap_between last place) ++ l) ++ event_lines_from only table place events) (kept_is only table index place parts text)

pub shown_is : (only : Option Rules) (table : Map) (stm : Statement) → shows_index only table stm.index ≡ shows_by only table (Some stm)
shown_is None table stm = refl
shown_is (Some rules) table stm = refl

-- that of a statement
pub one_whole : (only : Option Rules) (table : Map) (last place : Option ℕ) (stm : Statement) (parts : Parts) (line : List ℕ) (events : List Event)
    → event_lines_from only table last (Line stm.index place parts line ∷ events)
    ≡ (gap_line (gap_between last place) ++ kept_line (shows_by only table (Some stm)) line) ++ event_lines_from only table place events
one_whole only table last place stm parts line events =
    one_line only table last stm.index place parts line events
    ∙ ap (λ (b : Bool). (gap_line (gap_between last place) ++ kept_line b line) ++ event_lines_from only table place events) (shown_is only table stm)
