use Rattle.defmt_forms.proofs.Lines.{fault_whole, front_whole, gap_whole, line_whole, loss_whole, tail_whole}
use Rattle.defmt_forms.proofs.objects.objects_are_lines.Goals as goal

pub returns-clause-line : goal.returns-clause-line
returns-clause-line c = line_whole

pub returns-clause-fault : goal.returns-clause-fault
returns-clause-fault c = fault_whole

pub returns-clause-front : goal.returns-clause-front
returns-clause-front c = front_whole

pub returns-clause-tail : goal.returns-clause-tail
returns-clause-tail c = tail_whole

pub returns-clause-gap : goal.returns-clause-gap
returns-clause-gap c = gap_whole

pub returns-clause-loss : goal.returns-clause-loss
returns-clause-loss c = loss_whole
