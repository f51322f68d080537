use Rattle.std.proofs.Common.{◌≡◌, length, map}
use Rattle.clap.specs.Words.{app_of}
use Rattle.defmt_words.specs.Words.{with_rules}
use Rattle.defmt_words.specs.View.{parameter_view}
use Rattle.defmt_words.proofs.command_line.with_rules.Given as goal

abbrev pub invariant-parameters : goal.invariant-parameters
invariant-parameters l = record { same : with_rules (app_of l.line) (map parameter_view l.rest) ≡ with_rules (app_of l.initial.line) (map parameter_view l.parameters) }

abbrev pub decreases-parameters : goal.decreases-parameters
decreases-parameters l = length l.rest
