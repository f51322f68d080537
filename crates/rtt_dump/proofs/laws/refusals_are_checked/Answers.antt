use Rattle.rtt_dump.proofs.RefusalLaws.{image_all, image_first}
use Rattle.rtt_dump.proofs.laws.refusals_are_checked.Goals as goal

pub returns-clause-first : goal.returns-clause-first
returns-clause-first c = image_first

pub returns-clause-all : goal.returns-clause-all
returns-clause-all c = image_all
