-- Events that are kept, and not printed.
use Rattle.std.specs.Prelude.{List, [], ◌∷◌, ◌++◌}
use Rattle.defmt_decode.specs.declared.event.Event.{Event}
use Rattle.defmt_listen.specs.Heard.{Reporting}
use Rattle.defmt_recording.specs.Output.{is_fault}
use Rattle.defmt_recording.specs.declared.kept.Kept.{Kept}

-- each event is kept behind those before it, and nothing is printed
abbrev pub by_keeping : Reporting Kept Event
by_keeping = record { line = λ kept event. []; after = λ kept event. record { events = kept.events ++ event ∷ [] }; is_fault = is_fault }
