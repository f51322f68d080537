-- The events of pieces that give no line: their numbers and their names.
use Rattle.std.specs.Prelude.{◌==◌, ℕ, List, [], ◌∷◌, codes, if◌then◌else◌}
use Rattle.defmt_encode.specs.declared.cause.Cause.{Cause}
use Rattle.defmt_encode.specs.declared.cause.Cause.TheVariants as causes
use Rattle.defmt_encode.specs.declared.cause.Fault.{Fault}
use Rattle.defmt_encode.specs.declared.cause.Fault.TheVariants as faults
use Rattle.defmt_encode.specs.declared.heard.ReadCause.{ReadCause}
use Rattle.defmt_encode.specs.declared.heard.ReadCause.TheVariants as answers

-- ---- numbers

-- a piece is no code, has too many bytes, or has a text that is too wide
abbrev pub cobs_number : ℕ
cobs_number = 1

abbrev pub long_number : ℕ
long_number = 13

abbrev pub wide_number : ℕ
wide_number = 14

-- what a piece stands for is no message
abbrev pub cause_number : Cause → ℕ
cause_number causes.NoEntry = 2
cause_number causes.Tag = 3
cause_number causes.Unsupported = 4
cause_number causes.Short = 5
cause_number causes.BadBool = 6
cause_number causes.BadChar = 7
cause_number causes.BadText = 8
cause_number causes.BadVariant = 9
cause_number causes.Deep = 10
cause_number causes.Trailing = 11
cause_number causes.Many = 12

abbrev pub answer_of : Fault → ReadCause
answer_of (faults.Bad c) = answers.Bad (cause_number c)
answer_of faults.Memory = answers.Memory

-- ---- names

-- each number with its name
abbrev pub fault_names : List (ℕ × List ℕ)
fault_names =
    (cobs_number, codes "Cobs")
    ∷ (cause_number causes.NoEntry, codes "NoEntry")
    ∷ (cause_number causes.Tag, codes "Tag")
    ∷ (cause_number causes.Unsupported, codes "Unsupported")
    ∷ (cause_number causes.Short, codes "Short")
    ∷ (cause_number causes.BadBool, codes "BadBool")
    ∷ (cause_number causes.BadChar, codes "BadChar")
    ∷ (cause_number causes.BadText, codes "BadText")
    ∷ (cause_number causes.BadVariant, codes "BadVariant")
    ∷ (cause_number causes.Deep, codes "Deep")
    ∷ (cause_number causes.Trailing, codes "Trailing")
    ∷ (cause_number causes.Many, codes "Many")
    ∷ (long_number, codes "Long")
    ∷ (wide_number, codes "Wide")
    ∷ []

-- the name beside a number; a number without a row has the empty name
abbrev pub name_in : List (ℕ × List ℕ) → ℕ → List ℕ
name_in [] number = []
name_in (row ∷ rows) number = if number == row.0 then row.1 else name_in rows number

abbrev pub fault_name : ℕ → List ℕ
fault_name number = name_in fault_names number
