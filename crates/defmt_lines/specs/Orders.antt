-- How the logic stores orders: as the list of their numbers and levels.
use Rattle.std.specs.Prelude.{ℕ, List}
use Rattle.std.specs.Coded.{Coded, coded×, coded_list, coded_ℕ}
use Rattle.defmt_hooks.specs.contracts.level.Level.{the_row as level_row}
use Rattle.defmt_hooks.specs.declared.level.Level.{Level}

abbrev pub coded_orders : Coded (List (ℕ × Level))
coded_orders = coded_list (coded× coded_ℕ level_row.coded)
