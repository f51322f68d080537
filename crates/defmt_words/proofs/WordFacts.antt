-- What some words ask for. The program's name is any text.
use Rattle.std.proofs.Common.{◌≡◌, ◌==◌, ℕ, Bool, List, [], ◌∷◌, ◌++◌, true, false, refl, codes}
use Rattle.std.specs.Prelude.{Some, None, option_map}
use Rattle.clap.specs.Words.{Text}
use Rattle.clap.proofs.OnLiterals.{clap_on_literals}
use Rattle.defmt_grammar.specs.declared.language.Language.TheVariants.{Base, Full}
use Rattle.defmt_words.specs.declared.job.Job.{Job}
use Rattle.defmt_words.specs.declared.job.Job.TheVariants.{Script, Decode, Dump}
use Rattle.defmt_words.specs.declared.job.ScriptJob.TheVariants.{Run, Record, Terminals, Steer, Table, Print, Generate}
use Rattle.defmt_words.specs.declared.style.Style.{Style}
use Rattle.defmt_words.specs.declared.style.Form.TheVariants.{Color, Json}
use Rattle.defmt_grammar.specs.Cut.{strip}
use Rattle.defmt_hooks.specs.Reading.{floor_in, rules_in}
use Rattle.defmt_hooks.specs.declared.level.Floor.TheVariants.{At}
use Rattle.defmt_hooks.specs.declared.level.Level.TheVariants.{Warn}
use Rattle.defmt_words.specs.Numbers.{decimal_in}
use Rattle.defmt_words.specs.Style.{plain_style}
use Rattle.defmt_words.specs.Words.{job, no_options, refusals, rows}

-- the run of a script, its lines grouped or not
abbrev running : Bool → Job
running group = Script (Run (record no_options { group = group }))

-- the lines of a recording, and all of them
abbrev decoding : Text → Job
decoding file = Decode (record { table = file; language = Base; places = None; live = false; jobs = None; style = plain_style })

-- the lines of a script in this style
abbrev showing : Style → Job
showing style = Script (Run (record no_options { style = style }))

module _ (name : Text) where
  plain : job (name ∷ codes "run" ∷ []) ≡ Some (Script (Run no_options))
  unfolding clap_on_literals refusals rows
  plain = refl

  grouped : job (name ∷ codes "run" ∷ codes "--group" ∷ []) ≡ Some (running true)
  unfolding clap_on_literals refusals rows
  grouped = refl

  group_first : job (name ∷ codes "--group" ∷ codes "run" ∷ []) ≡ Some (running true)
  unfolding clap_on_literals refusals rows
  group_first = refl

  decodes : job (name ∷ codes "decode" ∷ codes "--table=t.elf" ∷ []) ≡ Some (decoding (codes "t.elf"))
  unfolding clap_on_literals refusals rows
  decodes = refl

  decodes_apart : job (name ∷ codes "decode" ∷ codes "--table" ∷ codes "t.elf" ∷ []) ≡ Some (decoding (codes "t.elf"))
  unfolding clap_on_literals refusals rows
  decodes_apart = refl

  generates : job (name ∷ codes "gen" ∷ codes "4096" ∷ []) ≡ Some (Script (Generate 4096))
  unfolding clap_on_literals refusals rows
  generates = refl

  too_many : job (name ∷ codes "gen" ∷ codes "4097" ∷ []) ≡ None
  unfolding clap_on_literals refusals rows
  too_many = refl

  zeros : job (name ∷ codes "gen" ∷ codes "007" ∷ []) ≡ None
  unfolding clap_on_literals refusals rows
  zeros = refl

  no_number : job (name ∷ codes "gen" ∷ []) ≡ None
  unfolding clap_on_literals refusals rows
  no_number = refl

  stray_number : job (name ∷ codes "run" ∷ codes "5" ∷ []) ≡ None
  unfolding clap_on_literals refusals rows
  stray_number = refl

  stray_table : job (name ∷ codes "run" ∷ codes "--table" ∷ codes "t.elf" ∷ []) ≡ None
  unfolding clap_on_literals refusals rows
  stray_table = refl

  stray_group : job (name ∷ codes "print" ∷ codes "--group" ∷ []) ≡ None
  unfolding clap_on_literals refusals rows
  stray_group = refl

  help : job (name ∷ codes "--help" ∷ []) ≡ None
  unfolding clap_on_literals refusals rows
  help = refl

  short_help : job (name ∷ codes "run" ∷ codes "-h" ∷ []) ≡ None
  unfolding clap_on_literals refusals rows
  short_help = refl

  version : job (name ∷ codes "--version" ∷ []) ≡ None
  unfolding clap_on_literals refusals rows
  version = refl

  no_command : job (name ∷ []) ≡ None
  unfolding clap_on_literals refusals rows
  no_command = refl

  unknown : job (name ∷ codes "frob" ∷ []) ≡ None
  unfolding clap_on_literals refusals rows
  unknown = refl

  twice : job (name ∷ codes "run" ∷ codes "--group" ∷ codes "--group" ∷ []) ≡ None
  unfolding clap_on_literals refusals rows
  twice = refl

  no_value : job (name ∷ codes "decode" ∷ codes "--table" ∷ []) ≡ None
  unfolding clap_on_literals refusals rows
  no_value = refl

  empty_value : job (name ∷ codes "decode" ∷ codes "--table=" ∷ []) ≡ Some (decoding [])
  unfolding clap_on_literals refusals rows
  empty_value = refl

  after_dashes : job (name ∷ codes "--" ∷ codes "run" ∷ []) ≡ Some (running false)
  unfolding clap_on_literals refusals rows
  after_dashes = refl

  group_value : job (name ∷ codes "run" ∷ codes "--group=true" ∷ []) ≡ None
  unfolding clap_on_literals refusals rows
  group_value = refl

  records : job (name ∷ codes "record" ∷ []) ≡ Some (Script Record)
  unfolding clap_on_literals refusals rows
  records = refl

  terminals : job (name ∷ codes "term" ∷ []) ≡ Some (Script Terminals)
  unfolding clap_on_literals refusals rows
  terminals = refl

  steers : job (name ∷ codes "steer" ∷ []) ≡ Some (Script Steer)
  unfolding clap_on_literals refusals rows
  steers = refl

  grouped_steering : job (name ∷ codes "steer" ∷ codes "--group" ∷ []) ≡ None
  unfolding clap_on_literals refusals rows
  grouped_steering = refl

  only_steering : job (name ∷ codes "steer" ∷ codes "--only=warn" ∷ []) ≡ None
  unfolding clap_on_literals refusals rows
  only_steering = refl

  grouped_terminals : job (name ∷ codes "term" ∷ codes "--group" ∷ []) ≡ None
  unfolding clap_on_literals refusals rows
  grouped_terminals = refl

  tables : job (name ∷ codes "table" ∷ []) ≡ Some (Script Table)
  unfolding clap_on_literals refusals rows
  tables = refl

  prints : job (name ∷ codes "print" ∷ []) ≡ Some (Script Print)
  unfolding clap_on_literals refusals rows
  prints = refl

  zero_statements : job (name ∷ codes "gen" ∷ codes "0" ∷ []) ≡ None
  unfolding clap_on_literals refusals rows
  zero_statements = refl

  no_table : job (name ∷ codes "decode" ∷ []) ≡ None
  unfolding clap_on_literals refusals rows
  no_table = refl

  dumps : job (name ∷ codes "dump" ∷ codes "--table=t.elf" ∷ []) ≡ Some (Dump (record { table = codes "t.elf"; language = Base; places = None; base = 536870912; up = 0; old = false; style = plain_style }))
  unfolding clap_on_literals refusals rows
  dumps = refl

  dumps_all : job (name ∷ codes "--old" ∷ codes "dump" ∷ codes "--table=t.elf" ∷ codes "--up=3" ∷ codes "--base=0x1fFf" ∷ [])
      ≡ Some (Dump (record { table = codes "t.elf"; language = Base; places = None; base = 8191; up = 3; old = true; style = plain_style }))
  unfolding clap_on_literals refusals rows strip
  dumps_all = refl

  plain_base : job (name ∷ codes "dump" ∷ codes "--table=t.elf" ∷ codes "--base=20000000" ∷ []) ≡ None
  unfolding clap_on_literals refusals rows strip
  plain_base = refl

  far_up : job (name ∷ codes "dump" ∷ codes "--table=t.elf" ∷ codes "--up=16" ∷ []) ≡ None
  unfolding clap_on_literals refusals rows
  far_up = refl

  dump_no_table : job (name ∷ codes "dump" ∷ []) ≡ None
  unfolding clap_on_literals refusals rows
  dump_no_table = refl

  stray_old : job (name ∷ codes "decode" ∷ codes "--table=t.elf" ∷ codes "--old" ∷ []) ≡ None
  unfolding clap_on_literals refusals rows
  stray_old = refl

  only_warnings : job (name ∷ codes "run" ∷ codes "--only=warn" ∷ []) ≡ Some (showing (record plain_style { only = Some (record { rest = At Warn; packages = [] }) }))
  unfolding clap_on_literals refusals rows rules_in floor_in
  only_warnings = refl

  no_rules : job (name ∷ codes "decode" ∷ codes "--table=t.elf" ∷ codes "--only=loud" ∷ []) ≡ None
  unfolding clap_on_literals refusals rows rules_in floor_in
  no_rules = refl

  stray_only : job (name ∷ codes "print" ∷ codes "--only=warn" ∷ []) ≡ None
  unfolding clap_on_literals refusals rows
  stray_only = refl

  shows_json : job (name ∷ codes "run" ∷ codes "--json" ∷ []) ≡ Some (showing (record plain_style { form = Json }))
  unfolding clap_on_literals refusals rows
  shows_json = refl

  shows_colors : job (name ∷ codes "--color" ∷ codes "run" ∷ []) ≡ Some (showing (record plain_style { form = Color }))
  unfolding clap_on_literals refusals rows
  shows_colors = refl

  both_forms : job (name ∷ codes "run" ∷ codes "--json" ∷ codes "--color" ∷ []) ≡ None
  unfolding clap_on_literals refusals rows
  both_forms = refl

  stray_json : job (name ∷ codes "print" ∷ codes "--json" ∷ []) ≡ None
  unfolding clap_on_literals refusals rows
  stray_json = refl

  fails_on_warnings : job (name ∷ codes "run" ∷ codes "--fail-on=warn" ∷ []) ≡ Some (showing (record plain_style { fail_on = Some Warn }))
  unfolding clap_on_literals refusals rows
  fails_on_warnings = refl

  fails_on_none : job (name ∷ codes "run" ∷ codes "--fail-on=off" ∷ []) ≡ None
  unfolding clap_on_literals refusals rows
  fails_on_none = refl

  tells_places : job (name ∷ codes "decode" ∷ codes "--table=t.elf" ∷ codes "--live" ∷ codes "--places=p" ∷ [])
      ≡ Some (Decode (record { table = codes "t.elf"; language = Base; places = Some (codes "p"); live = true; jobs = None; style = plain_style }))
  unfolding clap_on_literals refusals rows
  tells_places = refl

  stray_places : job (name ∷ codes "run" ∷ codes "--places=p" ∷ []) ≡ None
  unfolding clap_on_literals refusals rows
  stray_places = refl

  reads_fully : job (name ∷ codes "decode" ∷ codes "--full" ∷ codes "--table=t.elf" ∷ []) ≡ Some (Decode (record { table = codes "t.elf"; language = Full; places = None; live = false; jobs = None; style = plain_style }))
  unfolding clap_on_literals refusals rows
  reads_fully = refl

  dumps_fully : job (name ∷ codes "dump" ∷ codes "--table=t.elf" ∷ codes "--full" ∷ []) ≡ Some (Dump (record { table = codes "t.elf"; language = Full; places = None; base = 536870912; up = 0; old = false; style = plain_style }))
  unfolding clap_on_literals refusals rows
  dumps_fully = refl

  full_twice : job (name ∷ codes "decode" ∷ codes "--full" ∷ codes "--table=t.elf" ∷ codes "--full" ∷ []) ≡ None
  unfolding clap_on_literals refusals rows
  full_twice = refl

  full_value : job (name ∷ codes "decode" ∷ codes "--full=true" ∷ codes "--table=t.elf" ∷ []) ≡ None
  unfolding clap_on_literals refusals rows
  full_value = refl

  stray_full : job (name ∷ codes "run" ∷ codes "--full" ∷ []) ≡ None
  unfolding clap_on_literals refusals rows
  stray_full = refl

  side_by_side : job (name ∷ codes "--jobs" ∷ codes "64" ∷ codes "decode" ∷ codes "--table=t.elf" ∷ []) ≡ Some (Decode (record { table = codes "t.elf"; language = Base; places = None; live = false; jobs = Some 64; style = plain_style }))
  unfolding clap_on_literals refusals rows
  side_by_side = refl

  by_none : job (name ∷ codes "decode" ∷ codes "--table=t.elf" ∷ codes "--jobs=0" ∷ []) ≡ None
  unfolding clap_on_literals refusals rows
  by_none = refl

  by_too_many : job (name ∷ codes "decode" ∷ codes "--table=t.elf" ∷ codes "--jobs=65" ∷ []) ≡ None
  unfolding clap_on_literals refusals rows
  by_too_many = refl

  stray_jobs : job (name ∷ codes "dump" ∷ codes "--table=t.elf" ∷ codes "--jobs=2" ∷ []) ≡ None
  unfolding clap_on_literals refusals rows
  stray_jobs = refl

  stray_live : job (name ∷ codes "dump" ∷ codes "--table=t.elf" ∷ codes "--live" ∷ []) ≡ None
  unfolding clap_on_literals refusals rows
  stray_live = refl

  -- the table may have any name
  any_table : (file : Text) → job (name ∷ codes "decode" ∷ (codes "--table=" ++ file) ∷ []) ≡ Some (decoding file)
  unfolding clap_on_literals refusals rows
  any_table file = refl

  -- and the number is any word that does not begin with a dash
  any_number : (d : ℕ) (ds : List ℕ) → (d == 45) ≡ false → job (name ∷ codes "gen" ∷ (d ∷ ds) ∷ []) ≡ option_map (λ count. Script (Generate count)) (decimal_in 1 4096 (d ∷ ds))
  unfolding clap_on_literals refusals rows
  any_number d ds h = rw (h, h) refl

no_words : job [] ≡ None
unfolding clap_on_literals refusals rows
no_words = refl
