-- The frames of a script's statements, and the places and stamps that they carry.
use Rattle.std.specs.Prelude.{ℕ, ◌+◌, ◌*◌, List, [], length, Option, Some, None, slice_get}
use Rattle.defmt_encode.specs.Carry.{frame_of, message_of, stamp_args}
use Rattle.defmt_encode.specs.Placed.{place_in}
use Rattle.defmt_hooks.specs.Even.{Pace}
use Rattle.defmt_intern.specs.Table.{Map}
use Rattle.defmt_script.specs.Lawful.{stamp_in}
use Rattle.defmt_script.specs.Script.{Script, statements_by}
use Rattle.defmt_values.specs.declared.value.Statement.{Statement}

-- how many statements a writer has
abbrev pub count : Script → ℕ → ℕ
count s w = length (statements_by s w)

-- ---- stamps (defmt book, "Timestamps")

-- the first stamp, and the step to the next; both are 0 without stamps
abbrev pub first_stamp : Option (ℕ × ℕ) → ℕ
first_stamp None = 0
first_stamp (Some p) = p.0

abbrev pub stamp_step : Option (ℕ × ℕ) → ℕ
stamp_step None = 0
stamp_step (Some p) = p.1

-- the numbers by which a script's stamps count
abbrev pub pace_of : Option (ℕ × ℕ) → Pace
pace_of stamp = record { base = first_stamp stamp; step = stamp_step stamp }

-- the stamp of a tape's mark number t, from 0
abbrev pub stamp_number : Script → ℕ → ℕ
stamp_number s t = first_stamp s.settings.stamp + stamp_step s.settings.stamp * t

-- ---- frames (defmt book, "Encoding")

abbrev pub frame_with : Map → Option ℕ → Option ℕ → Option Statement → List ℕ
frame_with table place stamp None = []
frame_with table place stamp (Some stm) =
    frame_of (message_of table place (stamp_args stamp) stm.index stm.args)

-- the frame of the message of a writer's statement, for the mark with this number, with this stamp; in profile Two the message
-- carries the number modulo 65,536
unfoldable pub frame_at : Script → ℕ → ℕ → ℕ → ℕ → List ℕ
frame_at s number writer place stamp =
    frame_with s.table (place_in s.settings.profile number) (stamp_in s.settings.stamp stamp)
    (slice_get (statements_by s writer) place)
