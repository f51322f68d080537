use Rattle.std.proofs.Common.{◌≡◌, ℕ, sym}
use Rattle.std.specs.Prelude.{Result, Ok, Err, IfOk, IfErr}
use Rattle.rtt_control.specs.declared.fault.ControlFault.{ControlFault}
use Rattle.rtt_control.specs.Checks.{HasId}
use Rattle.rtt_control.specs.Ids.{IsFindFault, IsOnly}
use Rattle.rtt_control.specs.Control.{found}
use Rattle.rtt_control.proofs.IdLemmas.{find_only, find_fault}
use Rattle.std.proofs.Common.{List}
use Rattle.rtt_control.proofs.calls.find.Goals as goal

only : (image : List ℕ) (r : Result ℕ ControlFault) → r ≡ found image → IfOk r (IsOnly (HasId image))
only image (Ok at) is = find_only image at (sym is)
only image (Err fault) is = tt

refused : (image : List ℕ) (r : Result ℕ ControlFault) → r ≡ found image → IfErr r (IsFindFault image)
refused image (Ok at) is = tt
refused image (Err fault) is = find_fault image fault (sym is)

pub returns-clause-only : goal.returns-clause-only
returns-clause-only c = only c.args.image.now c.find_id.result c.find_id.ensures

pub returns-clause-refused : goal.returns-clause-refused
returns-clause-refused c = refused c.args.image.now c.find_id.result c.find_id.ensures
