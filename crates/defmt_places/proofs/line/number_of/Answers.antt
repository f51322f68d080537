use Rattle.std.proofs.Common.{sym, ◌∙◌, rules}
use Rattle.defmt_grammar.proofs.Cuts.{number_parse}
use Rattle.defmt_places.proofs.line.number_of.Goals as goal

pub returns : goal.returns
returns c = number_parse c.args.word.now c.parse.result c.unwrap_or.result c.parse.ensures.value.0 (sym c.all_digits.ensures ∙ c.if-not-all_digits.false) (search rules) c.unwrap_or.ensures
