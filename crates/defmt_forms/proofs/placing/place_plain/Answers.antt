use Rattle.defmt_forms.proofs.Placed.{plain_placed}
use Rattle.defmt_forms.proofs.placing.place_plain.Goals as goal

pub returns-clause-some : goal.returns-clause-some
returns-clause-some c = plain_placed c.args.template.now c.args.text.now c.args.at c.args.size c.requires.within c.put_end.new.text c.put_end.result c.put_end.ensures
