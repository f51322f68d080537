use Rattle.defmt_forms.proofs.Blocks.{quiet_front, quiet_rest}
use Rattle.defmt_forms.proofs.looks.is_quiet_text.Goals as goal

pub returns-clause-front : goal.returns-clause-front
returns-clause-front c = λ is count. quiet_front c.args.text.now count (c.are_quiet.ensures is)

pub returns-clause-rest : goal.returns-clause-rest
returns-clause-rest c = λ is count. quiet_rest c.args.text.now count (c.are_quiet.ensures is)
