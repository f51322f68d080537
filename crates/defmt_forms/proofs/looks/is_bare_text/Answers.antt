use Rattle.defmt_forms.proofs.Blocks.{bare_front, bare_rest}
use Rattle.defmt_forms.proofs.looks.is_bare_text.Goals as goal

pub returns-clause-front : goal.returns-clause-front
returns-clause-front c = λ is count. bare_front c.args.text.now count (c.are_bare.ensures is)

pub returns-clause-rest : goal.returns-clause-rest
returns-clause-rest c = λ is count. bare_rest c.args.text.now count (c.are_bare.ensures is)
