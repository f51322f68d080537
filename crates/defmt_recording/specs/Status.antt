-- The status and the words of each fault.
use Rattle.std.specs.Prelude.{ℕ, List, ◌++◌, codes}
use Rattle.std.specs.Fmt.{decimal}
use Rattle.defmt_hooks.specs.Spelling.{word_of}
use Rattle.defmt_hooks.specs.declared.level.Floor.TheVariants.{At}
use Rattle.defmt_recording.specs.declared.fault.Fault.{Fault}
use Rattle.defmt_recording.specs.declared.fault.Fault.TheVariants.{Fine, Memory, Words, Source, Sink, Script, Elf, Names, Places, Shelf, Long, Events, Control, Level}

abbrev pub status_of : Fault → ℕ
status_of Fine = 0
status_of Memory = 1
status_of Words = 2
status_of Source = 3
status_of Sink = 4
status_of (Script line cause inner) = 5
status_of (Elf cause part place) = 6
status_of (Names cause symbol) = 6
status_of (Places line cause) = 6
status_of Shelf = 7
status_of Long = 8
status_of (Events bad) = 9
status_of (Control cause place) = 10
status_of (Level level count) = 11

abbrev pub said : Fault → List ℕ
said Fine = codes "fine"
said Memory = codes "memory"
said Words = codes "words"
said Source = codes "source"
said Sink = codes "sink"
said (Script line cause inner) = codes "script line " ++ decimal line ++ codes " cause " ++ decimal cause ++ codes " inner " ++ decimal inner
said (Elf cause part place) = codes "table elf cause " ++ decimal cause ++ codes " place " ++ decimal place
said (Names cause symbol) = codes "table name cause " ++ decimal cause ++ codes " symbol " ++ decimal symbol
said (Places line cause) = codes "places line " ++ decimal line ++ codes " cause " ++ decimal cause
said Shelf = codes "shelf"
said Long = codes "too long"
said (Events bad) = codes "events with faults " ++ decimal bad
said (Control cause place) = codes "control cause " ++ decimal cause ++ codes " place " ++ decimal place
said (Level level count) = codes "lines at " ++ word_of (At level) ++ codes " " ++ decimal count
