-- The numbers of what a piece is refused for, beside what its message is refused for.
use Rattle.std.specs.Prelude.{ℕ}
use Rattle.defmt_encode.specs.Cause.{cobs_number, long_number, wide_number}
use Rattle.defmt_decode.specs.declared.event.Event.{Event}
use Rattle.defmt_decode.specs.declared.event.Event.TheVariants.{Bad}
use Rattle.defmt_decode.specs.declared.reader.Refusal.{Refusal}
use Rattle.defmt_decode.specs.declared.reader.Refusal.TheVariants.{Cobs, Long, Wide}

abbrev pub refusal_number : Refusal → ℕ
refusal_number Cobs = cobs_number
refusal_number Long = long_number
refusal_number Wide = wide_number

-- the event of a piece that is refused
abbrev pub refused : Refusal → Event
refused refusal = Bad (refusal_number refusal)
