-- What a recording comes to, as one fact that a call of a closure hands on.
use Rattle.std.specs.Prelude.{Bool}
use Rattle.defmt_intern.specs.Catalog.{Catalog}
use Rattle.defmt_listen.specs.Streams.{Input, Output}
use Rattle.defmt_recording.specs.Decoding.{Hears}
use Rattle.defmt_recording.specs.Styled.{Look}
use Rattle.defmt_recording.specs.declared.fault.Fault.{Fault}

pub record IsHeard (look : Look) (live : Bool) (table : Catalog) (input : Input) (output : Output) (fault : Fault) : Type 0 where
  pub hears : Hears look live table input output fault
