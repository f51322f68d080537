-- The numbers of a refused line.
use Rattle.std.specs.Prelude.{ℕ}
use Rattle.defmt_lines.specs.declared.cause.Cause.{Cause}
use Rattle.defmt_lines.specs.declared.cause.Cause.TheVariants as causes

abbrev pub cause_number : Cause → ℕ
cause_number causes.Line = 1
cause_number causes.Name = 2
cause_number causes.Double = 3
cause_number (causes.Args inner) = 4
cause_number causes.Writer = 5
cause_number causes.Ring = 6
cause_number causes.Mode = 7
cause_number causes.Late = 8
cause_number causes.Long = 9
cause_number (causes.Text inner) = 10
cause_number causes.Many = 11
cause_number causes.Wide = 12
cause_number causes.Stamp = 13
cause_number causes.Profile = 15
cause_number causes.Terminal = 16
cause_number causes.Words = 17
cause_number causes.Level = 19

-- the number that the reading of the arguments or of the text gives, or 0
abbrev pub inner_number : Cause → ℕ
inner_number (causes.Args inner) = inner
inner_number (causes.Text inner) = inner
inner_number cause = 0
