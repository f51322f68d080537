use Rattle.std.proofs.Common.{◌≡◌, ◌++◌}
use Rattle.defmt_print.specs.Terminals.{terminals_below}
use Rattle.defmt_print.proofs.terminals.with_screens.Given as goal

abbrev pub invariant-loop-terminal : goal.invariant-loop-terminal
invariant-loop-terminal l = l.out.items ≡ l.initial.out.items ++ terminals_below l.terminal l.screens
