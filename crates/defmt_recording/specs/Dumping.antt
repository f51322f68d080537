-- The events of an up-buffer in an image of memory are printed, by the table that a file names.
use Rattle.std.specs.Prelude.{◌≡◌, ◌⊎◌, ◌≤◌, ℕ, false, nat_lt, List, length, Option, Some, None, if◌then◌else◌}
use Rattle.dl_io.specs.Outside.{Rose}
use Rattle.defmt_decode.specs.Event.{events_of}
use Rattle.defmt_intern.specs.Catalog.{Catalog}
use Rattle.defmt_intern.specs.declared.table.Table.{Table}
use Rattle.defmt_listen.specs.Heard.{recording_limit}
use Rattle.defmt_listen.specs.Streams.{Input, Output}
use Rattle.defmt_places.specs.Places.{Map as PlaceMap}
use Rattle.defmt_recording.specs.Calls.{Files, GaveWithin, IsUnread, IsUnwritten, TookMore, TookWithin, at_hand}
use Rattle.defmt_recording.specs.Decoding.{ArePlaces, Hears, Loaded, LoadingComesTo, RefusesFiles, fault_of_events, fault_of_named}
use Rattle.defmt_recording.specs.Inputs.{Inputs}
use Rattle.defmt_recording.specs.Styled.{Look, look_by}
use Rattle.defmt_recording.specs.declared.fault.Fault.{Fault}
use Rattle.defmt_recording.specs.declared.fault.Fault.TheVariants.{Memory, Source, Long, Control}
use Rattle.defmt_words.specs.declared.job.DumpOptions.{DumpOptions}
use Rattle.rtt_dump.specs.Answers.{refusal}
use Rattle.rtt_dump.specs.Dump.{dump}
use Rattle.rtt_dump.specs.declared.fault.DumpFault.{DumpFault}
use Rattle.rtt_dump.specs.declared.fault.DumpFault.TheVariants as dumps

-- ---- the image

-- what an image is refused for
abbrev pub refused_for : DumpOptions → List ℕ → Option DumpFault
refused_for options image = refusal image options.base options.up

-- the bytes of its up-buffer: those that wait, or all
abbrev pub asked_bytes : DumpOptions → List ℕ → List ℕ
asked_bytes options image = dump image options.base options.up options.old

-- the source gave an image that isn't refused, and these are its bytes
pub record Gives (options : DumpOptions) (input : Input) (bytes : List ℕ) : Type 0 where
  pub image : List ℕ
  pub whole : GaveWithin recording_limit input image
  pub passes : refused_for options image ≡ None
  pub is : bytes ≡ asked_bytes options image

-- the source gave an image that is refused
pub record RefusesImage (options : DumpOptions) (input : Input) (cause place : ℕ) : Type 0 where
  pub image : List ℕ
  pub whole : GaveWithin recording_limit input image
  pub refused : refused_for options image ≡ Some (dumps.Refused cause place)

-- Why the source gives no bytes: it failed, or has more than the limit, of which one byte more was taken, or its image is
-- refused. Want of memory is free.
abbrev pub GivesNone : DumpOptions → Input → Fault → Type 0
GivesNone options input Memory = TookWithin recording_limit input
GivesNone options input Source = Rose input.faults input.faults_after × TookWithin recording_limit input
GivesNone options input Long = TookMore recording_limit input
GivesNone options input (Control cause place) = RefusesImage options input cause place
GivesNone options input fault = ⊥

-- ---- what stands at each fault

-- By a table and places: the source gave no bytes, and nothing was written, or it did, and this became of them as of a recording that
-- is at hand. Of that the rest is what a fault left unheard; where all was heard there is none.
abbrev pub Shows : DumpOptions → Look → Catalog → Input → Output → Fault → Type 0
Shows options l table input output fault =
    (GivesNone options input fault × IsUnwritten output)
    ⊎ ((bytes : List ℕ) × (rest : List ℕ) × (length bytes ≤ recording_limit) × Gives options input bytes
    × Hears l false table (at_hand bytes rest) output fault)

-- Nothing was touched but the shelf, or table and places were loaded, and then this.
abbrev pub Dumps : DumpOptions → Input → Files → Output → Fault → Type 0
Dumps options input files output fault =
    (RefusesFiles options.language files options.table options.places fault × IsUnread input × IsUnwritten output)
    ⊎ ((table : Table) × (places : PlaceMap) × Loaded options.language files options.table table × ArePlaces files options.places places
    × Shows options (look_by options.style table.entries places) table input output fault)

-- ---- what told inputs come to, where nothing fails and memory is there

-- an image that is refused for this, or else comes to this fault; none is refused for want of memory
abbrev pub or_refused : Option DumpFault → Fault → Fault
or_refused None fault = fault
or_refused (Some (dumps.Refused cause place)) fault = Control cause place
or_refused (Some dumps.Memory) fault = Memory

-- an image, by a table and places
abbrev pub fault_of_image : DumpOptions → List ℕ → Catalog → PlaceMap → Fault
fault_of_image options image table places =
    if nat_lt recording_limit (length image) then Long
    else or_refused (refused_for options image)
    (fault_of_events (look_by options.style table.entries places) false (events_of table (asked_bytes options image)))

-- an image, by the options of `dump`
abbrev pub DumpingComesTo : DumpOptions → Inputs → Fault → Type 0
DumpingComesTo options inputs fault =
    LoadingComesTo options.language (λ table. fault_of_named (fault_of_image options inputs.text table) options.places inputs.later)
    (inputs.files options.table) fault

-- ---- for private clauses

-- an image isn't refused, and these are its bytes
abbrev pub AreAsked : DumpOptions → List ℕ → List ℕ → Type 0
AreAsked options image bytes = (refused_for options image ≡ None) × (bytes ≡ asked_bytes options image)

-- why an image gives no bytes
abbrev pub StopsAt : DumpOptions → List ℕ → Fault → Type 0
StopsAt options image Memory = Unit {0}
StopsAt options image (Control cause place) = refused_for options image ≡ Some (dumps.Refused cause place)
StopsAt options image fault = ⊥
