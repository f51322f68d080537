use Rattle.std.proofs.Common.{sym}
use Rattle.defmt_intern.proofs.PieceLaws.{pieces_again, pieces_none}
use Rattle.defmt_intern.proofs.parsed.pieces_of.Goals as goal

pub returns-in-Ok : goal.returns-in-Ok
returns-in-Ok c = sym (pieces_again c.args.mode c.args.text.now c.in-Ok.pieces c.in-Ok.ensures.answer)

pub returns-in-Err-Refused : goal.returns-in-Err-Refused
returns-in-Err-Refused c = sym (pieces_none c.args.mode c.args.text.now (λ ps spells. (rw c.in-Err-Refused.field-0-is at c.in-Err-Refused.ensures.spelled) ps spells))
