use Rattle.defmt_decode.specs.Event.{tells}
use Rattle.defmt_recording.specs.Styled.{look_by}
use Rattle.defmt_blocks.specs.Blocks.{told_says}
use Rattle.defmt_blocks.proofs.beside.print_cut.Given as goal

abbrev pub ghosts-print_named : goal.ghosts-print_named
ghosts-print_named g a = record { says = told_says (look_by a.style.now a.table.now.entries a.places.now) (tells a.table.now) }
