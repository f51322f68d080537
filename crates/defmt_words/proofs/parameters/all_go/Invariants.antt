use Rattle.std.proofs.Common.{◌≡◌, length, map}
use Rattle.clap.specs.Words.{found_of, rows_of}
use Rattle.defmt_words.specs.Parameters.{all_go}
use Rattle.defmt_words.specs.View.{parameter_view}
use Rattle.defmt_words.proofs.parameters.all_go.Given as goal

abbrev pub invariant-parameters : goal.invariant-parameters
invariant-parameters l = record { same : all_go l.command (rows_of (found_of l.matches)) (map parameter_view l.rest) ≡ all_go l.command (rows_of (found_of l.matches)) (map parameter_view l.parameters) }

abbrev pub decreases-parameters : goal.decreases-parameters
decreases-parameters l = length l.rest
