use Rattle.std.proofs.Common.{◌+◌, ◌*◌, drop}
use Rattle.defmt_intern.specs.Table.{Map}
use Rattle.defmt_intern.specs.declared.parsed.Parsed.{Parsed}
use Rattle.defmt_plan.proofs.Elements.{Counting}
use Rattle.defmt_plan.proofs.Onward.{Going}
use Rattle.defmt_plan.specs.Forms.{AreFormsIn, StandsFor}
use Rattle.defmt_plan.proofs.inside.+inside.Given as goal

abbrev pub decreases-pass_some : goal.decreases-pass_some
decreases-pass_some l = 10 * l.left + 4

abbrev pub decreases-pass_list : goal.decreases-pass_list
decreases-pass_list l = 10 * l.left + 5

abbrev pub decreases-pass_format : goal.decreases-pass_format
decreases-pass_format l = 10 * l.left + 5

abbrev pub decreases-pass_any : goal.decreases-pass_any
decreases-pass_any l = 10 * l.left + 6

abbrev pub decreases-pass_step : goal.decreases-pass_step
decreases-pass_step l = 10 * l.left + 7

abbrev pub decreases-pass_steps : goal.decreases-pass_steps
decreases-pass_steps l = 10 * l.left + 8

abbrev pub decreases-pass_form : goal.decreases-pass_form
decreases-pass_form l = 10 * l.left + 9

abbrev pub decreases-pass_elements : goal.decreases-pass_elements
decreases-pass_elements l = 10 * l.left + 10

abbrev pub invariant-pass_steps-loop-step : goal.invariant-pass_steps-loop-step
invariant-pass_steps-loop-step l = (t : Map) → AreFormsIn t l.forms.items.items → Going t l.left l.outer l.fn.steps (drop l.step-index l.steps) l.bytes l.fn.before l.reach l.fn.out l.out

abbrev pub invariant-pass_elements-loop-number : goal.invariant-pass_elements-loop-number
invariant-pass_elements-loop-number l = (t : Map) (what : Parsed) → AreFormsIn t l.forms.items.items → StandsFor t l.form what → Counting t l.left what l.form.index l.hint l.count l.number l.bytes l.fn.before l.reach l.fn.out l.out
