use Rattle.defmt_intern.proofs.FaultLaws.{judged}
use Rattle.defmt_intern.proofs.PieceLaws.{pieces_found, pieces_again}
use Rattle.defmt_intern.proofs.parsed.pieces_are_spelled.Goals as goal

pub returns-clause-found : goal.returns-clause-found
returns-clause-found c = pieces_found

pub returns-clause-again : goal.returns-clause-again
returns-clause-again c = pieces_again

pub returns-clause-judged : goal.returns-clause-judged
returns-clause-judged c = judged
