use Rattle.std.proofs.Common.{◌≡◌, ◌++◌, take, flat_map}
use Rattle.defmt_recording.specs.Output.{ended}
use Rattle.rtt_terminal.specs.Stream.{screen_at}
use Rattle.defmt_print.proofs.terminals.add_texts.Given as goal

abbrev pub invariant-loop-place : goal.invariant-loop-place
invariant-loop-place l = l.out.items ≡ l.fn.out.items ++ flat_map ended (take l.place (screen_at l.screens l.terminal))
