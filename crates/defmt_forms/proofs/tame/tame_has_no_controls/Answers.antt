use Rattle.defmt_forms.proofs.Controls.{has_no_controls}
use Rattle.defmt_forms.proofs.tame.tame_has_no_controls.Goals as goal

pub returns : goal.returns
returns c = has_no_controls
