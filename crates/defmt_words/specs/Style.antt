-- What the words ask of printing.
use Rattle.std.specs.Prelude.{Bool, true, false, List, [], ◌∷◌, Option, Some, None, codes, option_map, option_and_then}
use Rattle.clap.specs.Words.{Row, first_of}
use Rattle.defmt_hooks.specs.Levels.{level_named}
use Rattle.defmt_hooks.specs.Reading.{rules_in}
use Rattle.defmt_words.specs.Parameters.{Parameter, is_set, optional}
use Rattle.defmt_words.specs.declared.parameters.Kind.TheVariants.{Value, Flag}
use Rattle.defmt_words.specs.declared.style.Style.{Style}
use Rattle.defmt_words.specs.declared.style.Form.{Form}
use Rattle.defmt_words.specs.declared.style.Form.TheVariants.{Plain, Color, Json}

-- A row a parameter of printing.
abbrev pub style_parameters : List Parameter
style_parameters =
    record { name = codes "only"; kind = Value; taken = codes "run" ∷ codes "decode" ∷ codes "dump" ∷ []; needed = [] }
    ∷ record { name = codes "json"; kind = Flag; taken = codes "run" ∷ codes "decode" ∷ codes "dump" ∷ []; needed = [] }
    ∷ record { name = codes "color"; kind = Flag; taken = codes "run" ∷ codes "decode" ∷ codes "dump" ∷ []; needed = [] }
    ∷ record { name = codes "fail-on"; kind = Value; taken = codes "run" ∷ codes "decode" ∷ codes "dump" ∷ []; needed = [] }
    ∷ []

-- the form of the lines, by whether `--json` and `--color` are there: not both
abbrev pub form_in : Bool → Bool → Option Form
form_in false false = Some Plain
form_in false true = Some Color
form_in true false = Some Json
form_in true true = None

abbrev pub form_by : List Row → Option Form
form_by rows = form_in (is_set (codes "json") rows) (is_set (codes "color") rows)

-- what is asked of printing, where all of it is spelled rightly
abbrev pub style_by : List Row → Option Style
style_by rows =
    option_and_then (λ only. option_and_then (λ form. option_map (λ fail_on.
    record { only = only; form = form; fail_on = fail_on })
    (optional level_named (first_of (codes "fail-on") rows))) (form_by rows)) (optional rules_in (first_of (codes "only") rows))

-- what words without options ask: all lines, as text, none of which makes the program fail
abbrev pub plain_style : Style
plain_style = record { only = None; form = Plain; fail_on = None }
