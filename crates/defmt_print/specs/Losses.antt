-- The reports of frames that weren't sent whole.
use Rattle.std.specs.Prelude.{ℕ, Bool, true, false, List, [], ◌++◌, codes, flat_map, if◌then◌else◌}
use Rattle.std.specs.Fmt.{decimal}
use Rattle.defmt_forms.specs.Json.{loss_name, loss_object}
use Rattle.defmt_forms.specs.Terminal.{warning}
use Rattle.defmt_logger.specs.declared.mark.Mark.{Mark}
use Rattle.defmt_recording.specs.Output.{ended}
use Rattle.defmt_words.specs.declared.style.Form.{Form}
use Rattle.defmt_words.specs.declared.style.Form.TheVariants.{Plain, Color, Json}
use Rattle.rtt_modes.specs.declared.fate.Fate.{Fate}
use Rattle.rtt_modes.specs.declared.fate.Fate.TheVariants.{Whole, Dropped, Cut}

-- its writer, and its place among the writer's
abbrev pub place_text : ℕ → ℕ → List ℕ
place_text writer place = (codes " writer " ++ decimal writer) ++ (codes " statement " ++ decimal place)

-- the bytes that it needed, and those that there was room for
abbrev pub room_text : ℕ → ℕ → List ℕ
room_text need room = (codes " need " ++ decimal need) ++ (codes " room " ++ decimal room)

-- with what was done with it in front
abbrev pub loss_text : List ℕ → ℕ → ℕ → ℕ → ℕ → List ℕ
loss_text done writer place need room = done ++ (place_text writer place ++ room_text need room)

-- A row a form: whether all of it was dropped or its end cut.
abbrev pub loss_words : Bool → List ℕ
loss_words dropped = if dropped then codes "-- dropped" else codes "-- cut"

abbrev pub report_text : Form → Bool → ℕ → ℕ → ℕ → ℕ → List ℕ
report_text Plain dropped writer place need room = loss_text (loss_words dropped) writer place need room
report_text Color dropped writer place need room = warning (loss_text (loss_words dropped) writer place need room)
report_text Json dropped writer place need room = loss_object (loss_name dropped) writer place need room

abbrev pub loss_by : Form → Fate → ℕ → ℕ → List ℕ
loss_by form Whole writer place = []
loss_by form (Dropped need room) writer place = ended (report_text form true writer place need room)
loss_by form (Cut need room) writer place = ended (report_text form false writer place need room)

-- a report where the frame was dropped or cut
unfoldable pub loss_line : Form → Mark → List ℕ
loss_line form m = loss_by form m.fate m.writer m.place

-- the reports of a tape, in its order
abbrev pub loss_lines : Form → List Mark → List ℕ
loss_lines form tape = flat_map (loss_line form) tape
