use Rattle.defmt_grammar.specs.Language.{lenient_of}
use Rattle.defmt_intern.proofs.PieceLaws.{pieces_again}
use Rattle.defmt_lines.proofs.verdict.parse_form.Goals as goal

pub returns-in-Ok-clause-pieces : goal.returns-in-Ok-clause-pieces
returns-in-Ok-clause-pieces c = pieces_again (lenient_of c.args.language) c.args.text.now c.in-Ok.pieces (c.strict_is_lenient.ensures c.args.language c.args.text.now c.in-Ok.pieces (rw c.strict.ensures at c.in-Ok.ensures.answer))
