-- The numbers of the causes.
use Rattle.std.specs.Prelude.{ℕ}
use Rattle.rtt_terminal.specs.declared.fault.Cause.{Cause}
use Rattle.rtt_terminal.specs.declared.fault.Cause.TheVariants.{Switch, Text, Cut}

abbrev pub number_of : Cause → ℕ
number_of Switch = 1
number_of Text = 2
number_of Cut = 3
