use Rattle.std.proofs.Common.{◌≡◌, ◌≤◌, ◌-◌, length, []}
use Rattle.std.specs.List.{All}
use Rattle.rtt_terminal.proofs.screens.Screens.new.Given as goal

abbrev pub invariant-screens : goal.invariant-screens
invariant-screens l = record {
  size : length l.screens.items ≤ 16;
  empty : All (λ texts. texts ≡ []) l.screens.items;
}

abbrev pub decreases-screens : goal.decreases-screens
decreases-screens l = 16 - length l.screens.items
