-- The numbers of the causes.
use Rattle.std.specs.Prelude.{ℕ}
use Rattle.defmt_grammar.specs.declared.fault.Cause.{Cause}
use Rattle.defmt_grammar.specs.declared.fault.Cause.TheVariants.{Brace, Kind, Hint, Range, Conflict, Gap, Many, Float}

-- the number that a refusal gives for its cause
abbrev pub cause_number : Cause → ℕ
cause_number Brace = 1
cause_number Kind = 2
cause_number Hint = 3
cause_number Range = 4
cause_number Conflict = 5
cause_number Gap = 6
cause_number Many = 7
cause_number Float = 8
