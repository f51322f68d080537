use Rattle.defmt_lines.proofs.Verdicts.{one_verdict}
use Rattle.defmt_lines.proofs.verdict.one_verdict.Goals as goal

pub returns : goal.returns
returns c = one_verdict (record { one = c.one_answer.ensures.one; never_both = c.one_answer.ensures.never_both; first = c.one_answer.ensures.first })
