-- Which events are shown by rules. The defmt book, "Filtering".
use Rattle.std.specs.Prelude.{ℕ, Bool, true, Option, Some, None}
use Rattle.defmt_hooks.specs.Kept.{keeps}
use Rattle.defmt_hooks.specs.Levels.{level_of}
use Rattle.defmt_hooks.specs.declared.level.Level.{Level}
use Rattle.defmt_hooks.specs.declared.rules.Rules.{Rules}
use Rattle.defmt_intern.specs.declared.entry.Entry.{Entry}
use Rattle.defmt_intern.specs.Table.{Map}
use Rattle.defmt_values.specs.Entries.{look}
use Rattle.defmt_decode.specs.declared.event.Event.{Event}
use Rattle.defmt_decode.specs.declared.event.Event.TheVariants.{Line}

-- a message of a level is shown where the rules keep that level of its package, and one without a level always
abbrev pub shows_message : Rules → Option Level → Entry → Bool
shows_message rules (Some level) entry = keeps rules level entry.package
shows_message rules None entry = true

abbrev pub shows_entry : Rules → Entry → Bool
shows_entry rules entry = shows_message rules (level_of entry.tag) entry

abbrev pub shows_found : Rules → Option Entry → Bool
shows_found rules (Some entry) = shows_entry rules entry
shows_found rules None = true

-- a line is shown by the entry at its index
abbrev pub shows_line : Rules → Map → ℕ → Bool
shows_line rules t index = shows_found rules (look t index)

-- every event that is no line is shown
abbrev pub shows : Rules → Map → Event → Bool
shows rules t (Line index place parts text) = shows_line rules t index
shows rules t event = true
