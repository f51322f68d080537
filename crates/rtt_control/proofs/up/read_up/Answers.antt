use Rattle.std.proofs.Common.{◌≡◌, ℕ, List}
use Rattle.std.specs.Prelude.{Result, Ok, Err, IfErr, OnOk}
use Rattle.rtt_control.specs.declared.fault.ControlFault.{ControlFault}
use Rattle.rtt_control.specs.Layout.{block_of}
use Rattle.rtt_control.specs.Checks.{HasBlock, HasId, IsFirstRefusal, Passes, read_subject}
use Rattle.rtt_control.specs.Control.{block_at}
use Rattle.rtt_control.proofs.Refusals.{read_passes, read_refused}
use Rattle.rtt_control.proofs.up.read_up.Goals as goal

passes : {T : Type 0} (image : List ℕ) (base at : ℕ) (r : Result T ControlFault) → OnOk r (block_at image base at ≡ Ok (block_of image at))
    → OnOk r (Passes (HasId image at) (HasBlock image at) (read_subject image base at))
passes image base at (Ok found) is = (read_passes image base at (block_of image at) is).0
passes image base at (Err fault) is = tt

refused : {T : Type 0} (image : List ℕ) (base at : ℕ) (r : Result T ControlFault) → IfErr r (λ fault. block_at image base at ≡ Err fault)
    → IfErr r (IsFirstRefusal (HasId image at) (HasBlock image at) (read_subject image base at) at)
refused image base at (Ok found) is = tt
refused image base at (Err fault) is = read_refused image base at fault is

pub returns-clause-passes : goal.returns-clause-passes
returns-clause-passes c = passes c.args.image.now c.args.base c.args.at c.find_up.result c.find_up.ensures.answer

pub returns-clause-refused : goal.returns-clause-refused
returns-clause-refused c = refused c.args.image.now c.args.base c.args.at c.find_up.result c.find_up.ensures.fault
