use Rattle.std.proofs.Common.{drop, take}
use Rattle.defmt_recording.proofs.styled.StyledReporterHostListener.print_in_place.Goals as goal

pub returns-clause-moved : goal.returns-clause-moved
returns-clause-moved c = c.go_on_behind.ensures (take c.args.size (drop c.args.at c.args.text.now))
