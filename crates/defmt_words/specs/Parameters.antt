-- The parameters of the words, and which of them go with a command.
use Rattle.std.specs.Prelude.{ℕ, Bool, false, not, List, Option, Some, None, is_some, if◌then◌else◌, codes, option_map}
use Rattle.std.specs.List.{list_all, list_any}
use Rattle.std.specs.Option.{option_map_or}
use Rattle.std.specs.Str.{bytes_eq}
use Rattle.clap.specs.Words.{Row, Text, first_of}
use Rattle.defmt_words.specs.declared.parameters.Kind.{Kind}
use Rattle.defmt_words.specs.declared.parameters.Kind.TheVariants.{Place, Value, Flag}

-- A parameter: its name, how it stands in the words, the commands that take it, and those that need it.
pub record Parameter : Type 0 where
  pub name : Text
  pub kind : Kind
  pub taken : List Text
  pub needed : List Text

-- an option that may be left out: what its value spells, where it is there, and nothing at all where the value spells nothing
abbrev pub optional : {T : Type 0} → (List ℕ → Option T) → Option (List ℕ) → Option (Option T)
optional read None = Some None
optional read (Some text) = option_map (λ value. Some value) (read text)

-- whether a flag is there, to which `clap` then gives this value
abbrev pub is_set : Text → List Row → Bool
is_set name rows = option_map_or (λ text. bytes_eq text (codes "true")) (first_of name rows) false

abbrev pub is_there : Kind → Text → List Row → Bool
is_there Place name rows = is_some (first_of name rows)
is_there Value name rows = is_some (first_of name rows)
is_there Flag name rows = is_set name rows

abbrev pub is_among : Text → List Text → Bool
is_among word words = list_any (bytes_eq word) words

-- the command takes a parameter that is there, and doesn't need one that isn't
abbrev pub goes : Text → List Row → Parameter → Bool
goes command rows parameter = if is_there parameter.kind parameter.name rows
    then is_among command parameter.taken else not (is_among command parameter.needed)

abbrev pub all_go : Text → List Row → List Parameter → Bool
all_go command rows list = list_all (goes command rows) list
