-- What a tape prints in groups: the lines of the frames that were sent whole, writer by writer, in a style.
use Rattle.std.specs.Prelude.{◌==◌, ◌+◌, ℕ, List, [], ◌∷◌, ◌++◌, flat_map, if◌then◌else◌}
use Rattle.std.specs.FinMap as map
use Rattle.defmt_decode.specs.declared.event.Event.{Event}
use Rattle.defmt_encode.specs.Placed.{place_in}
use Rattle.defmt_logger.specs.Tape.{mark_line}
use Rattle.defmt_logger.specs.declared.mark.Mark.{Mark}
use Rattle.defmt_print.specs.Heard.{event_by, mark_events, parts_at}
use Rattle.defmt_print.specs.Printed.{mark_statement}
use Rattle.defmt_recording.specs.Styled.{Look, look_by, shown_text}
use Rattle.defmt_script.specs.Script.{Script}
use Rattle.defmt_words.specs.declared.style.Style.{Style}
use Rattle.rtt_modes.specs.declared.fate.Fate.TheVariants.{Whole}

-- what the lines of a script are printed by: its own table, and no places in the sources
abbrev pub look_of : Style → Script → Look
look_of style s = look_by style s.table map.empty

-- the lines of these events that are shown
abbrev pub texts : Style → Script → List Event → List ℕ
texts style s events = flat_map (shown_text (look_of style s)) events

-- the line of the mark with this number, where it is of this writer and its frame was sent whole
abbrev pub writer_line : Style → Script → ℕ → ℕ → Mark → List ℕ
writer_line style s writer number m = if m.writer == writer then texts style s (mark_events s number m) else []

-- those of marks of which the first has this number, in the tape's order
abbrev pub writer_lines : Style → Script → ℕ → ℕ → List Mark → List ℕ
writer_lines style s writer number [] = []
writer_lines style s writer number (m ∷ ms) = writer_line style s writer number m ++ writer_lines style s writer (number + 1) ms

-- those of the writers 0 to 7 in order
abbrev pub group_lines : Style → Script → List Mark → List ℕ
group_lines style s tape = flat_map (λ writer. writer_lines style s writer 0 tape) (0 ∷ 1 ∷ 2 ∷ 3 ∷ 4 ∷ 5 ∷ 6 ∷ 7 ∷ [])

-- ---- for private clauses

-- the line of a mark with this number, whatever became of its frame
abbrev pub whole_line : Style → Script → ℕ → Mark → List ℕ
whole_line style s number m = texts style s (event_by Whole (place_in s.settings.profile number) (mark_statement s m) (parts_at s number m.stamp) (mark_line s m))
