-- What is printed of a run.
use Rattle.std.specs.Prelude.{◌+◌, ℕ, List, [], ◌∷◌, ◌++◌, filter, length, if◌then◌else◌}
use Rattle.defmt_decode.specs.declared.event.Event.{Event}
use Rattle.defmt_logger.specs.declared.mark.Mark.{Mark}
use Rattle.defmt_print.specs.Losses.{loss_lines}
use Rattle.defmt_print.specs.OrderLines.{order_lines}
use Rattle.defmt_print.specs.Groups.{group_lines, look_of}
use Rattle.defmt_print.specs.Heard.{mark_events}
use Rattle.defmt_recording.specs.Styled.{is_failing, styled_lines}
use Rattle.defmt_script.specs.Script.{Script}
use Rattle.defmt_words.specs.Style.{plain_style}
use Rattle.defmt_words.specs.declared.job.RunOptions.{RunOptions}
use Rattle.defmt_words.specs.declared.style.Style.{Style}
use Rattle.rtt_down.specs.declared.turn.Turn.{Turn}

-- the lines of the events, or those of the tape in groups, in a style
abbrev pub heard_lines : RunOptions → Script → List Mark → List Event → List ℕ
heard_lines options s tape events = if options.group then group_lines options.style s tape else styled_lines (look_of options.style s) events

-- and then a report of each frame that wasn't sent whole
abbrev pub run_lines : RunOptions → Script → List Mark → List Event → List ℕ
run_lines options s tape events = heard_lines options s tape events ++ loss_lines options.style.form tape

-- the lines of the events of a run under orders, all of them, and then a line for each order
abbrev pub steered_lines : Script → List Turn → List Event → List ℕ
steered_lines s turns events = styled_lines (look_of plain_style s) events ++ order_lines s.settings.orders turns

-- ---- lines of a level

-- how many lines of the frames that were sent whole are printed that make the program fail
abbrev pub tape_failing : Style → Script → ℕ → List Mark → ℕ
tape_failing style s number [] = 0
tape_failing style s number (m ∷ ms) = length (filter (is_failing (look_of style s)) (mark_events s number m)) + tape_failing style s (number + 1) ms

-- how many lines are printed that make the program fail: of the events, or of the tape in groups
abbrev pub run_failing : RunOptions → Script → List Mark → List Event → ℕ
run_failing options s tape events =
    if options.group then tape_failing options.style s 0 tape else length (filter (is_failing (look_of options.style s)) events)
