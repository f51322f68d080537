use Rattle.defmt_lines.proofs.verdict.judge.Goals as goal

pub returns : goal.returns
returns c = rw c.err.ensures.value c.in_ok-parse_text.ensures.verdict
