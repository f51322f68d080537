use Rattle.std.proofs.Common.{List, ℕ, string_bytes, subst, sym}
use Rattle.std.proofs.lemmas.Str.{IsUtf8-string_bytes}
use Rattle.serde_json.specs.View.{view}
use Rattle.defmt_intern.specs.Name.{Names}
use Rattle.defmt_intern.proofs.NameLaws.{names_written}
use Rattle.defmt_intern.proofs.name.symbol_name.Goals as goal

pub returns-clause-read_back : goal.returns-clause-read_back
returns-clause-read_back c = λ spelled.
    let there : Names (string_bytes c.in_ok-text.text) c.args.entry.now =
    names_written (string_bytes c.in_ok-text.text) (view c.in_ok-value.value) c.as_str.result.now c.name.result.now c.as_str-2.result.now c.as_str-3.result.now c.args.entry.now (IsUtf8-string_bytes c.in_ok-text.text)
    c.in_ok-value.ensures c.as_str.ensures.text c.name.ensures c.as_str-2.ensures.text c.as_str-3.ensures.text c.in_ok-text.ensures.reads_back spelled in
    subst (λ (t : List ℕ). Names t c.args.entry.now) (sym c.from_string.ensures) there
