-- What the words of the program ask for.
use Rattle.std.specs.Prelude.{ℕ, true, false, List, [], ◌∷◌, ◌++◌, Option, Some, None, if◌then◌else◌, codes, option_map, option_and_then}
use Rattle.std.specs.Option.{option_map_or}
use Rattle.std.specs.Str.{bytes_eq}
use Rattle.clap.specs.Words.{App, Row, Rule, Text, first_of, fault_of, matches_of, new_app, new_rule, with_rule, Kinds}
use Rattle.clap.specs.Walk.{is_empty}
use Rattle.clap.specs.declared.builder.ArgAction.TheVariants.{SetTrue}
use Rattle.defmt_grammar.specs.declared.language.Language.{Language}
use Rattle.defmt_grammar.specs.declared.language.Language.TheVariants as languages
use Rattle.defmt_words.specs.declared.job.Job.{Job}
use Rattle.defmt_words.specs.declared.job.Job.TheVariants.{Script, Decode, Dump}
use Rattle.defmt_words.specs.declared.job.ScriptJob.TheVariants.{Run, Record, Terminals, Steer, Table, Print, Generate}
use Rattle.defmt_words.specs.declared.job.RunOptions.{RunOptions}
use Rattle.defmt_words.specs.declared.parameters.Kind.{Kind}
use Rattle.defmt_words.specs.declared.parameters.Kind.TheVariants.{Place, Value, Flag}
use Rattle.defmt_words.specs.Numbers.{decimal_in, hexadecimal_in}
use Rattle.defmt_words.specs.Parameters.{Parameter, all_go, is_set, optional}
use Rattle.defmt_words.specs.Style.{plain_style, style_by, style_parameters}

-- A row a parameter, but of printing.
abbrev pub command_parameters : List Parameter
command_parameters =
    record { name = codes "number"; kind = Place; taken = codes "gen" ∷ []; needed = codes "gen" ∷ [] }
    ∷ record { name = codes "table"; kind = Value; taken = codes "decode" ∷ codes "dump" ∷ []; needed = codes "decode" ∷ codes "dump" ∷ [] }
    ∷ record { name = codes "group"; kind = Flag; taken = codes "run" ∷ []; needed = [] }
    ∷ record { name = codes "base"; kind = Value; taken = codes "dump" ∷ []; needed = [] }
    ∷ record { name = codes "up"; kind = Value; taken = codes "dump" ∷ []; needed = [] }
    ∷ record { name = codes "old"; kind = Flag; taken = codes "dump" ∷ []; needed = [] }
    ∷ record { name = codes "places"; kind = Value; taken = codes "decode" ∷ codes "dump" ∷ []; needed = [] }
    ∷ record { name = codes "live"; kind = Flag; taken = codes "decode" ∷ []; needed = [] }
    ∷ record { name = codes "full"; kind = Flag; taken = codes "decode" ∷ codes "dump" ∷ []; needed = [] }
    ∷ record { name = codes "jobs"; kind = Value; taken = codes "decode" ∷ []; needed = [] }
    ∷ []

-- and those of printing
abbrev pub parameters : List Parameter
parameters = command_parameters ++ style_parameters

-- ---- the command line, as `clap` sees it: the command, which is required, and then the parameters

-- a word by its place, `--name` with a value, or `--name`
abbrev pub rule_by : Kind → Text → Rule
rule_by Place name = new_rule name
rule_by Value name = record (new_rule name) { long = Some name }
rule_by Flag name = record (new_rule name) { long = Some name; action = Some SetTrue }

abbrev pub with_rules : App → List Parameter → App
with_rules app [] = app
with_rules app (parameter ∷ more) = with_rules (with_rule app (rule_by parameter.kind parameter.name)) more

abbrev pub command_rule : Rule
command_rule = record (new_rule (codes "command")) { required = true }

abbrev pub command_line : App
command_line = with_rules (with_rule (new_app (codes "defmtl")) command_rule) parameters

-- the kinds of error for which `clap` refuses the words (help and version too): none where it takes them
unfoldable pub refusals : List Text → Kinds
refusals words = fault_of command_line words

-- the rows that `clap` makes of words that it takes
unfoldable pub rows : List Text → List Row
rows words = matches_of command_line words

-- what `clap` finds in the words, where it takes them
abbrev pub found : List Text → Option (List Row)
found words = if is_empty (refusals words) then Some (rows words) else None

-- ---- the job of a command, by parameters that go with it

-- the options of `run` where the words have none
abbrev pub no_options : RunOptions
no_options = record { group = false; style = plain_style }

abbrev pub run_by : List Row → Option Job
run_by rows = option_map (λ style. Script (Run (record { group = is_set (codes "group") rows; style = style }))) (style_by rows)

-- the language of the table
abbrev pub language_by : List Row → Language
language_by rows = if is_set (codes "full") rows then languages.Full else languages.Base

-- the number of threads that `--jobs` spells, or none
abbrev pub jobs_by : List Row → Option (Option ℕ)
jobs_by rows = optional (decimal_in 1 64) (first_of (codes "jobs") rows)

abbrev pub decode_by : List Row → Option Job
decode_by rows =
    option_and_then (λ table. option_and_then (λ jobs. option_map (λ style. Decode (record {
      table = table;
      language = language_by rows;
      places = first_of (codes "places") rows;
      live = is_set (codes "live") rows;
      jobs = jobs;
      style = style;
    })) (style_by rows)) (jobs_by rows)) (first_of (codes "table") rows)

-- the address that `--base` spells, or 20000000
abbrev pub base_in : List Row → Option ℕ
base_in rows = option_map_or hexadecimal_in (first_of (codes "base") rows) (Some 536870912)

-- the number that `--up` spells, or 0
abbrev pub up_in : List Row → Option ℕ
up_in rows = option_map_or (decimal_in 0 15) (first_of (codes "up") rows) (Some 0)

abbrev pub dump_by : List Row → Option Job
dump_by rows =
    option_and_then (λ table. option_and_then (λ base. option_and_then (λ up. option_map (λ style. Dump (record {
      table = table;
      language = language_by rows;
      places = first_of (codes "places") rows;
      base = base;
      up = up;
      old = is_set (codes "old") rows;
      style = style;
    })) (style_by rows)) (up_in rows)) (base_in rows)) (first_of (codes "table") rows)

abbrev pub generate_by : List Row → Option Job
generate_by rows =
    option_map (λ count. Script (Generate count)) (option_and_then (decimal_in 1 4096) (first_of (codes "number") rows))

-- A row a command.
abbrev pub choice : Text → List Row → Option Job
choice command rows =
    if bytes_eq command (codes "run") then run_by rows
    else if bytes_eq command (codes "record") then Some (Script Record)
    else if bytes_eq command (codes "term") then Some (Script Terminals)
    else if bytes_eq command (codes "steer") then Some (Script Steer)
    else if bytes_eq command (codes "table") then Some (Script Table)
    else if bytes_eq command (codes "print") then Some (Script Print)
    else if bytes_eq command (codes "decode") then decode_by rows
    else if bytes_eq command (codes "dump") then dump_by rows
    else if bytes_eq command (codes "gen") then generate_by rows
    else None

abbrev pub chosen : List Row → Option Job
chosen rows =
    option_and_then (λ command. if all_go command rows parameters then choice command rows else None)
    (first_of (codes "command") rows)

-- What the words ask for, of which the first is the program's name: nothing where `clap` refuses them, or where the parameters
-- don't go with the command.
abbrev pub job : List Text → Option Job
job words = option_and_then chosen (found words)
