-- What the calls answer.
use Rattle.std.specs.Prelude.{◌≡◌, Result, Ok, Err}
use Rattle.defmt_places.specs.Places.{Map, Refusal, cause_number}
use Rattle.defmt_places.specs.declared.fault.Cause.{Cause}
use Rattle.defmt_places.specs.declared.fault.LineFault.{LineFault}
use Rattle.defmt_places.specs.declared.fault.LineFault.TheVariants as line_faults
use Rattle.defmt_places.specs.declared.fault.PlacesFault.{PlacesFault}
use Rattle.defmt_places.specs.declared.fault.PlacesFault.TheVariants as faults

-- these places or this refusal are answered, unless memory runs out
abbrev pub Reads : Result Map Refusal → Result Map PlacesFault → Type 0
Reads reading (Ok places) = reading ≡ Ok places
Reads (Ok places) (Err (faults.Refused line cause)) = ⊥
Reads (Err refusal) (Err (faults.Refused line cause)) = (line ≡ refusal.line) × (cause ≡ cause_number refusal.cause)
Reads reading (Err faults.Memory) = Unit {0}

-- the line was taken, or is refused, or memory ran out; on a fault the places are as before
abbrev pub Takes : Result Map Cause → Map → Result (Unit {0}) LineFault → Map → Type 0
Takes taken old (Ok done) new = taken ≡ Ok new
Takes taken old (Err (line_faults.Refused cause)) new = (taken ≡ Err cause) × (new ≡ old)
Takes taken old (Err line_faults.Memory) new = new ≡ old
