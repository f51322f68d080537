-- What is printed of a run with its texts for terminals.
use Rattle.std.specs.Prelude.{ℕ, List, ◌++◌}
use Rattle.defmt_decode.specs.declared.event.Event.{Event}
use Rattle.defmt_logger.specs.declared.mark.Mark.{Mark}
use Rattle.defmt_print.specs.RunLines.{run_lines}
use Rattle.defmt_print.specs.Terminals.{screen_lines}
use Rattle.defmt_script.specs.Script.{Script}
use Rattle.defmt_words.specs.Words.{no_options}
use Rattle.rtt_booth.specs.Said.{screens_by}
use Rattle.rtt_booth.specs.declared.said.Word.{Word}

-- the lines of a run by no options, and then the texts of each terminal
abbrev pub spoken_lines : Script → List Mark → List Event → List Word → List ℕ
spoken_lines s tape events words =
    run_lines no_options s tape events ++ screen_lines (screens_by s.said words)
