-- Which entry of a table is the timestamp's (defmt book, "Timestamps").
use Rattle.std.specs.Prelude.{ℕ, Bool, true, false, nat_lt, ◌&&◌, Option, Some, None}
use Rattle.std.specs.List.{find}
use Rattle.defmt_intern.specs.Entries.{Map}
use Rattle.defmt_intern.specs.Entries as map
use Rattle.defmt_intern.specs.declared.entry.Entry.{Entry}
use Rattle.defmt_intern.specs.declared.entry.Tag.{Tag}
use Rattle.defmt_intern.specs.declared.entry.Tag.TheVariants as tags

abbrev pub is_timestamp : Tag → Bool
is_timestamp tags.Timestamp = true
is_timestamp tag = false

abbrev pub has_stamp : Option Entry → Bool
has_stamp None = false
has_stamp (Some e) = is_timestamp e.tag

-- the entry at the index is the timestamp's; an index above 65,535 is none, whatever the map
abbrev pub is_stamp_at : Map → ℕ → Bool
is_stamp_at t index = nat_lt index 65536 && has_stamp (map.get t index)

-- the index of the timestamp's entry, of which a table has at most one
unfoldable pub stamp_of : Map → Option ℕ
stamp_of t = find (is_stamp_at t) (map.keys t)
