-- The levels of a script's statements, and which of them are sent.
use Rattle.std.specs.Prelude.{ℕ, Bool, true, Option, Some, None, slice_get}
use Rattle.defmt_hooks.specs.Kept.{passes}
use Rattle.defmt_hooks.specs.Levels.{level_of}
use Rattle.defmt_hooks.specs.declared.level.Floor.TheVariants.{At}
use Rattle.defmt_hooks.specs.declared.level.Level.{Level}
use Rattle.defmt_intern.specs.Table.{Map}
use Rattle.defmt_intern.specs.declared.entry.Entry.{Entry}
use Rattle.defmt_script.specs.Script.{Script, statements_by}
use Rattle.defmt_values.specs.Entries.{look}
use Rattle.defmt_values.specs.declared.value.Statement.{Statement}

abbrev pub level_in : Option Entry → Option Level
level_in None = None
level_in (Some entry) = level_of entry.tag

abbrev pub level_with : Map → Option Statement → Option Level
level_with table None = None
level_with table (Some stm) = level_in (look table stm.index)

-- the level of a writer's statement
unfoldable pub level_at : Script → ℕ → ℕ → Option Level
level_at s writer place = level_with s.table (slice_get (statements_by s writer) place)

-- A message is sent where its level is the floor or a later one, and always where it has no level.
abbrev pub is_sent : Option Level → Level → Bool
is_sent None floor = true
is_sent (Some level) floor = passes (At floor) level
