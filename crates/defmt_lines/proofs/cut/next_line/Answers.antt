use Rattle.defmt_lines.proofs.LineCuts.{cut_at, cut_last}
use Rattle.defmt_lines.proofs.cut.next_line.Goals as goal

pub returns-in-empty-clause-lines : goal.returns-in-empty-clause-lines
returns-in-empty-clause-lines c = cut_last c.args.text.now c.split_at_mark.result.0.now c.split_at_mark.result.1.now c.split_at_mark.ensures.front c.split_at_mark.ensures.rest c.in-empty.len_below c.requires

pub returns-in-len1-up-clause-lines : goal.returns-in-len1-up-clause-lines
returns-in-len1-up-clause-lines c = cut_at c.args.text.now c.strip_carriage_return.result.now c.split_at_mark.result.0.now c.split_at_mark.result.1.now c.split_at_mark.ensures.front c.split_at_mark.ensures.rest c.in-len1-up.len_at_least c.strip_carriage_return.ensures
