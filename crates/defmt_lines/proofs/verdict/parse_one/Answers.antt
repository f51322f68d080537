use Rattle.std.proofs.Common.{[], ap, sym, ◌∷◌}
use Rattle.defmt_intern.specs.Body.{one_body}
use Rattle.defmt_lines.proofs.Verdicts.{at_read}
use Rattle.defmt_lines.proofs.verdict.parse_one.Goals as goal

pub returns-in-Ok-clause-verdict : goal.returns-in-Ok-clause-verdict
returns-in-Ok-clause-verdict c = at_read c.args.language (c.args.text.now ∷ []) c.in-Ok.is c.in_ok-pieces.ensures.verdict

pub returns-in-Ok-clause-parsed : goal.returns-in-Ok-clause-parsed
returns-in-Ok-clause-parsed c = sym (ap one_body (rw c.in-Ok.is at c.in_ok-pieces.ensures.pieces))

pub returns-in-Err-clause-verdict : goal.returns-in-Err-clause-verdict
returns-in-Err-clause-verdict c = at_read c.args.language (c.args.text.now ∷ []) c.in-Err.is c.in_ok-pieces.ensures.verdict
