use Rattle.std.proofs.Common.{◌≡◌, ◌&&◌, ◌∙◌, Bool, List, ap, sym}
use Rattle.std.proofs.lemmas.List.Folds.{list_all-append}
use Rattle.clap.specs.Words.{Row, Text, found_of, rows_of}
use Rattle.defmt_words.specs.Parameters.{Parameter, all_go, goes}
use Rattle.defmt_words.specs.Style.{style_parameters}
use Rattle.defmt_words.specs.Words.{command_parameters, parameters}
use Rattle.defmt_words.proofs.reading.goes_with.Goals as goal

-- both tables go
both_go : (command : Text) (rows : List Row) (first : Bool) → first ≡ all_go command rows command_parameters
    → all_go command rows parameters ≡ (first && all_go command rows style_parameters)
both_go command rows first is =
    list_all-append (goes command rows) command_parameters style_parameters ∙ ap (λ (b : Bool). b && all_go command rows style_parameters) (sym is)

pub returns-then-all_go : goal.returns-then-all_go
returns-then-all_go c =
    let rows = rows_of (found_of c.args.matches.now) in
    let go = λ (list : List Parameter). all_go c.args.command.now rows list in
    c.all_go-then-all_go.ensures ∙ ap go c.style_parameters.ensures
    ∙ sym (both_go c.args.command.now rows _ (sym c.if-all_go.true ∙ c.all_go.ensures ∙ ap go c.command_parameters.ensures))

pub returns-else-all_go : goal.returns-else-all_go
returns-else-all_go c =
    let rows = rows_of (found_of c.args.matches.now) in
    let go = λ (list : List Parameter). all_go c.args.command.now rows list in
    c.if-all_go.false
    ∙ sym (both_go c.args.command.now rows _ (sym c.if-all_go.false ∙ c.all_go.ensures ∙ ap go c.command_parameters.ensures))
