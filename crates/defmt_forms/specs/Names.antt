-- The names of levels in printed lines, and where a line's place stands (defmt book, the display of log frames).
use Rattle.std.specs.Prelude.{ℕ, List, [], ◌++◌, codes, Option, Some, None}
use Rattle.defmt_hooks.specs.declared.level.Level.{Level}
use Rattle.defmt_hooks.specs.declared.level.Level.TheVariants.{Trace, Debug, Info, Warn, Error}

-- the name of a level
abbrev pub level_name : Level → List ℕ
level_name Trace = codes "TRACE"
level_name Debug = codes "DEBUG"
level_name Info = codes "INFO"
level_name Warn = codes "WARN"
level_name Error = codes "ERROR"

-- behind it as many spaces as make six of both
abbrev pub level_gap : Level → List ℕ
level_gap Trace = codes " "
level_gap Debug = codes " "
level_gap Info = codes "  "
level_gap Warn = codes "  "
level_gap Error = codes " "

-- behind a line its place in the sources, where one is known
abbrev pub place_part : Option (List ℕ) → List ℕ
place_part None = []
place_part (Some place) = codes " (" ++ (place ++ codes ")")
