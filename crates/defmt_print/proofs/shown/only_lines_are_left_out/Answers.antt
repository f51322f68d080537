use Rattle.defmt_print.proofs.Gaps.{all_alone, at_first}
use Rattle.defmt_print.proofs.shown.only_lines_are_left_out.Goals as goal

pub returns-clause-lines : goal.returns-clause-lines
returns-clause-lines c = λ only s tape one. all_alone only s one 0 tape

pub returns-clause-gaps : goal.returns-clause-gaps
returns-clause-gaps c = λ only s tape two placed few. at_first only s c.gaps_count.ensures two tape placed 0 few
