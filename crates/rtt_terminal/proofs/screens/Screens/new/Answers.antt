use Rattle.std.proofs.Common.{arith}
use Rattle.rtt_terminal.proofs.ScreenLaws.{none_yet}
use Rattle.rtt_terminal.proofs.screens.Screens.new.Goals as goal

pub returns : goal.returns
returns c = none_yet c.screens.screens.items (omega (arith, c.screens.invariant.size, c.len.ensures, c.screens-test.false)) c.screens.invariant.empty
