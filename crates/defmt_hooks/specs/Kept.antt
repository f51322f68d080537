-- Which messages are kept, by their level and package.
use Rattle.std.specs.Prelude.{ℕ, List, Bool, false, nat_le, unwrap_or}
use Rattle.std.specs.Map.{lookup}
use Rattle.std.specs.Str.{bytes_eq}
use Rattle.defmt_hooks.specs.declared.level.Level.{Level}
use Rattle.defmt_hooks.specs.declared.level.Level.TheVariants.{Trace, Debug, Info, Warn, Error}
use Rattle.defmt_hooks.specs.declared.level.Floor.{Floor}
use Rattle.defmt_hooks.specs.declared.level.Floor.TheVariants.{At, Off}
use Rattle.defmt_hooks.specs.declared.rules.Rules.{Rules}

-- the place of a level in their order
abbrev pub rank : Level → ℕ
rank Trace = 0
rank Debug = 1
rank Info = 2
rank Warn = 3
rank Error = 4

-- the floor is a level, and this level is it or a later one
abbrev pub passes : Floor → Level → Bool
passes (At least) level = nat_le (rank least) (rank level)
passes Off level = false

-- the floor of the first pair that has the package, else that of the rest
abbrev pub floor_of : Rules → List ℕ → Floor
floor_of rules name = unwrap_or (lookup (bytes_eq name) rules.packages) rules.rest

-- whether a message of this level and package is kept
abbrev pub keeps : Rules → Level → List ℕ → Bool
keeps rules level name = passes (floor_of rules name) level
