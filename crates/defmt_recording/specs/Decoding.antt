-- A recording is decoded by the table that a file names.
use Rattle.std.specs.Prelude.{◌≡◌, ◌⊎◌, ◌<◌, ◌≤◌, ◌&&◌, ℕ, zero, suc, min, Bool, not, nat_lt, List, filter, length, Option, Some, None, Result, Ok, Err, if◌then◌else◌}
use Rattle.std.specs.FinMap as map
use Rattle.dl_io.specs.Outside.{HasFile, Lacks, Rose, last_count}
use Rattle.defmt_grammar.specs.declared.language.Language.{Language}
use Rattle.defmt_hooks.specs.declared.level.Level.{Level as AnyLevel}
use Rattle.defmt_intern.specs.Catalog.{Catalog}
use Rattle.defmt_intern.specs.declared.table.Table.{Table}
use Rattle.defmt_places.specs.Places.{Map as PlaceMap, Refusal, cause_number, places_in}
use Rattle.elf_section.specs.Checks.{Refused}
use Rattle.elf_table.specs.Names.{NamesTable, ReadsTable, SymbolRefused}
use Rattle.elf_table.specs.declared.fault.LoadFault.{LoadFault}
use Rattle.elf_table.specs.declared.fault.LoadFault.TheVariants as loads
use Rattle.defmt_listen.specs.Streams.{Input, Output}
use Rattle.defmt_listen.specs.Heard.{HeardAll, HeardBegun, HeardFront, HeardTooMuch}
use Rattle.defmt_decode.specs.Event.{events_of}
use Rattle.defmt_decode.specs.declared.event.Event.{Event}
use Rattle.defmt_recording.specs.Calls.{IsUnread, IsUnwritten, Files}
use Rattle.defmt_recording.specs.Inputs.{Inputs}
use Rattle.defmt_recording.specs.Output.{is_fault}
use Rattle.defmt_recording.specs.Styled.{Look, is_cut, is_failing, limit_of, look_by, styled_reports}
use Rattle.defmt_recording.specs.declared.fault.Fault.{Fault}
use Rattle.defmt_recording.specs.declared.fault.Fault.TheVariants.{Fine, Memory, Source, Sink, Elf, Names, Places, Shelf, Long, Events, Level}
use Rattle.defmt_words.specs.declared.job.DecodeOptions.{DecodeOptions}
use Rattle.defmt_words.specs.declared.style.Style.{Style}

-- the most bytes of the file of a table
abbrev pub table_limit : ℕ
table_limit = 67108864

-- the shelf has this file at the name, where its files are told
abbrev pub IsFile : Option (List ℕ → Option (List ℕ)) → List ℕ → List ℕ → Type 0
IsFile None name file = Unit {0}
IsFile (Some files) name file = files name ≡ Some file

-- The file of this name names this table of this language.
pub record Loaded (language : Language) (files : Files) (name : List ℕ) (table : Table) : Type 0 where
  pub file : List ℕ
  pub fetched : IsFile files.files name file
  pub within : length file ≤ table_limit
  pub names : NamesTable language file table

-- why a file gives no table
abbrev pub RefusesFile : Language → List ℕ → Fault → Type 0
RefusesFile language file Memory = Unit {0}
RefusesFile language file (Elf cause part place) = Refused file (record { cause = cause; part = part; place = place })
RefusesFile language file (Names cause symbol) = SymbolRefused language file cause symbol
RefusesFile language file fault = ⊥

-- why a name gives no file
abbrev pub RefusesName : Files → List ℕ → Fault → Type 0
RefusesName files name Memory = Unit {0}
RefusesName files name Shelf = Rose files.faults files.faults_after ⊎ Lacks files.files name
RefusesName files name Long = HasFile files.files name (λ file. table_limit < length file)
RefusesName files name fault = ⊥

-- Why a name gives no table: it gives no file, or its file gives none.
abbrev pub RefusesTable : Language → Files → List ℕ → Fault → Type 0
RefusesTable language files name fault =
    RefusesName files name fault
    ⊎ ((file : List ℕ) × IsFile files.files name file × (length file ≤ table_limit) × RefusesFile language file fault)

-- ---- places

-- why a text tells no places: the first line that is refused, and its cause
abbrev pub TellsNone : List ℕ → ℕ → ℕ → Type 0
TellsNone file line cause =
    (refusal : Refusal) × (places_in file ≡ Err refusal) × (line ≡ refusal.line) × (cause ≡ cause_number refusal.cause)

abbrev pub RefusesPlacesFile : List ℕ → Fault → Type 0
RefusesPlacesFile file Memory = Unit {0}
RefusesPlacesFile file (Places line cause) = TellsNone file line cause
RefusesPlacesFile file fault = ⊥

-- the file of this name tells these places
pub record PlacesAt (files : Files) (name : List ℕ) (places : PlaceMap) : Type 0 where
  pub file : List ℕ
  pub fetched : IsFile files.files name file
  pub within : length file ≤ table_limit
  pub tells : places_in file ≡ Ok places

-- why it tells none
abbrev pub RefusesPlacesAt : Files → List ℕ → Fault → Type 0
RefusesPlacesAt files name fault =
    RefusesName files name fault
    ⊎ ((file : List ℕ) × IsFile files.files name file × (length file ≤ table_limit) × RefusesPlacesFile file fault)

-- these are the places, none where no file is named
abbrev pub ArePlaces : Files → Option (List ℕ) → PlaceMap → Type 0
ArePlaces files None places = places ≡ map.empty
ArePlaces files (Some name) places = PlacesAt files name places

-- why there are none
abbrev pub RefusesPlaces : Files → Option (List ℕ) → Fault → Type 0
RefusesPlaces files None fault = ⊥
RefusesPlaces files (Some name) fault = RefusesPlacesAt files name fault

-- Why there is no table, or no places: the file of the places is asked for once the table is there.
abbrev pub RefusesFiles : Language → Files → List ℕ → Option (List ℕ) → Fault → Type 0
RefusesFiles language files name places fault =
    RefusesTable language files name fault ⊎ ((table : Table) × Loaded language files name table × RefusesPlaces files places fault)

-- ---- what all events come to

abbrev pub fault_of_count : ℕ → Fault
fault_of_count zero = Fine
fault_of_count (suc n) = Events (suc n)

-- so many lines that make the program fail, and so many faults
abbrev pub fault_by : Option AnyLevel → ℕ → ℕ → Fault
fault_by None failing bad = fault_of_count bad
fault_by (Some level) zero bad = fault_of_count bad
fault_by (Some level) (suc n) bad = Level level (suc n)

-- a fault of a recording: while the device runs neither a front nor a tail
abbrev pub is_counted : Bool → Event → Bool
is_counted live event = is_fault event && not (live && is_cut event)

-- The count of failing lines stands still at the greatest number of its type.
abbrev pub fault_of_events : Look → Bool → List Event → Fault
fault_of_events l live events =
    fault_by l.style.fail_on (min (length (filter (is_failing l) events)) last_count) (length (filter (is_counted live) events))

-- ---- what became of a recording

-- all of it was taken, the lines of its events were written, and the fault is what they come to
pub record HearsAll (l : Look) (live : Bool) (table : Catalog) (input : Input) (output : Output) (fault : Fault) : Type 0 where
  pub count : ℕ
  pub all : HeardAll (styled_reports l live table) input output count
  pub is : fault ≡ fault_of_events l live (events_of table all.recording)

abbrev pub Hears : Look → Bool → Catalog → Input → Output → Fault → Type 0
Hears l live table input output Fine = HearsAll l live table input output Fine
Hears l live table input output (Events bad) = HearsAll l live table input output (Events bad)
Hears l live table input output (Level level count) = HearsAll l live table input output (Level level count)
Hears l live table input output Memory = HeardFront (styled_reports l live table) input output
Hears l live table input output Source =
    HeardBegun (styled_reports l live table) input output × Rose input.faults input.faults_after
Hears l live table input output Sink =
    HeardFront (styled_reports l live table) input output × Rose output.faults output.faults_after
Hears l live table input output Long = HeardTooMuch (styled_reports l live table) input output
Hears l live table input output fault = ⊥

-- What stands at each fault: nothing was touched but the shelf, or table and places were loaded, and this became of the recording.
abbrev pub Decodes : DecodeOptions → Input → Files → Output → Fault → Type 0
Decodes options input files output fault =
    (RefusesFiles options.language files options.table options.places fault × IsUnread input × IsUnwritten output)
    ⊎ ((table : Table) × (places : PlaceMap) × Loaded options.language files options.table table × ArePlaces files options.places places
    × Hears (look_by options.style table.entries places) options.live table input output fault)

-- ---- what told inputs come to, where nothing fails and memory is there

-- a recording, by a table and places
abbrev pub fault_of_recording : Style → Bool → List ℕ → Catalog → PlaceMap → Fault
fault_of_recording style live recording table places =
    if nat_lt (limit_of live) (length recording) then Long
    else fault_of_events (look_by style table.entries places) live (events_of table recording)

-- what is done last, by the table, where its file is read so
abbrev pub ReadingComesTo : (Catalog → Fault) → Result Table LoadFault → Fault → Type 0
ReadingComesTo last (Ok table) fault = fault ≡ last table
ReadingComesTo last (Err (loads.Elf cause part place)) fault = fault ≡ Elf cause part place
ReadingComesTo last (Err (loads.Names cause symbol)) fault = fault ≡ Names cause symbol
ReadingComesTo last (Err loads.Memory) fault = ⊥

-- the same with the table's file, if there is one
abbrev pub LoadingComesTo : Language → (Catalog → Fault) → Option (List ℕ) → Fault → Type 0
LoadingComesTo language last None fault = fault ≡ Shelf
LoadingComesTo language last (Some file) fault =
    ((table_limit < length file) × (fault ≡ Long))
    ⊎ ((length file ≤ table_limit) × ((read : Result Table LoadFault) × ReadsTable language file read × ReadingComesTo last read fault))

-- what is done last, by the places, where their file is read so
abbrev pub fault_of_places : (PlaceMap → Fault) → Result PlaceMap Refusal → Fault
fault_of_places last (Ok places) = last places
fault_of_places last (Err refusal) = Places refusal.line (cause_number refusal.cause)

-- the same with the places' file, if there is one
abbrev pub fault_of_file : (PlaceMap → Fault) → Option (List ℕ) → Fault
fault_of_file last None = Shelf
fault_of_file last (Some file) = if nat_lt table_limit (length file) then Long else fault_of_places last (places_in file)

-- and where no file may be named
abbrev pub fault_of_named : (PlaceMap → Fault) → Option (List ℕ) → (List ℕ → Option (List ℕ)) → Fault
fault_of_named last None files = last map.empty
fault_of_named last (Some name) files = fault_of_file last (files name)

-- a recording, by the options of `decode`
abbrev pub DecodingComesTo : DecodeOptions → Inputs → Fault → Type 0
DecodingComesTo options inputs fault =
    LoadingComesTo options.language (λ table. fault_of_named (fault_of_recording options.style options.live inputs.text table) options.places inputs.later)
    (inputs.files options.table) fault
