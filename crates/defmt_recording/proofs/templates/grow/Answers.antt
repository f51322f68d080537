use Rattle.std.proofs.Common.{◌∙◌, List, None, Option, ap}
use Rattle.std.specs.Prelude.{slice_index_or}
use Rattle.defmt_forms.specs.declared.template.Template.{Template}
use Rattle.defmt_recording.proofs.Filled.{none_more}
use Rattle.defmt_recording.proofs.templates.grow.Goals as goal

pub each-preserved : goal.each-preserved
each-preserved c = λ index.
    ap (λ (l : List (Option Template)). slice_index_or l index None) c.in_ok-push.ensures.items ∙ none_more c.each.templates.items index ∙ c.each.invariant index
