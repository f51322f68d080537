-- What reading a stream answers.
use Rattle.std.specs.Prelude.{◌≡◌, ℕ, List, Result, Ok, Err}
use Rattle.rtt_terminal.specs.Cause.{number_of}
use Rattle.rtt_terminal.specs.Stream.{Shows, HasFault}
use Rattle.rtt_terminal.specs.declared.fault.Cause.{Cause}
use Rattle.rtt_terminal.specs.declared.fault.TermFault.{TermFault}
use Rattle.rtt_terminal.specs.declared.fault.TermFault.TheVariants.{Refused, Memory}

abbrev pub Reads : List ℕ → Result (List (List (List ℕ))) TermFault → Type 0
Reads bytes (Ok screens) = Shows bytes screens
Reads bytes (Err (Refused number place)) = (cause : Cause) × HasFault bytes cause place × (number ≡ number_of cause)
Reads bytes (Err Memory) = Unit {0}

-- the answer is these lines, unless memory runs out
abbrev pub GivesOnly : Result (List (List (List ℕ))) TermFault → List (List (List ℕ)) → Type 0
GivesOnly (Ok found) screens = found ≡ screens
GivesOnly (Err (Refused number place)) screens = ⊥
GivesOnly (Err Memory) screens = Unit {0}

-- the answer is this refusal, unless memory runs out
abbrev pub RefusesOnly : Result (List (List (List ℕ))) TermFault → Cause → ℕ → Type 0
RefusesOnly (Ok found) cause at = ⊥
RefusesOnly (Err (Refused number place)) cause at = (number ≡ number_of cause) × (place ≡ at)
RefusesOnly (Err Memory) cause at = Unit {0}
