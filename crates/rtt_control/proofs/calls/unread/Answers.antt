use Rattle.std.proofs.Common.{◌≡◌, ℕ, List}
use Rattle.std.specs.Prelude.{Result, Ok, Err, IfOk, IfErr, OnOk}
use Rattle.dl_io.specs.Buffer.{Buffer}
use Rattle.rtt_control.specs.declared.block.Descriptor.{Descriptor}
use Rattle.rtt_control.specs.declared.fault.ControlFault.{ControlFault}
use Rattle.rtt_control.specs.Layout.{waiting}
use Rattle.rtt_control.specs.Checks.{IsRefusal, Passes, unread_subject}
use Rattle.rtt_control.specs.Control.{IsAnswer, unread_of}
use Rattle.rtt_control.proofs.Refusals.{unread_passes, unread_refusal}
use Rattle.rtt_control.proofs.calls.unread.Goals as goal

bytes_are : (image : List ℕ) (base : ℕ) (d : Descriptor) (r : Result Buffer ControlFault) → IfOk r (λ b. unread_of image base d ≡ Ok b.items)
    → IfOk r (λ b. b.items ≡ waiting image base d)
bytes_are image base d (Ok b) is = (unread_passes image b.items base d is).1
bytes_are image base d (Err fault) is = tt

passes : (image : List ℕ) (base : ℕ) (d : Descriptor) (r : Result Buffer ControlFault) → IfOk r (λ b. unread_of image base d ≡ Ok b.items)
    → OnOk r (Passes (Unit {0}) (Unit {0}) (unread_subject image base d))
passes image base d (Ok b) is = (unread_passes image b.items base d is).0
passes image base d (Err fault) is = tt

refused : (image : List ℕ) (base : ℕ) (d : Descriptor) (r : Result Buffer ControlFault) → IfErr r (IsAnswer (unread_of image base d))
    → IfErr r (IsRefusal (Unit {0}) (Unit {0}) (unread_subject image base d) 0)
refused image base d (Ok b) is = tt
refused image base d (Err fault) is = unread_refusal image base d fault is

pub returns-clause-waiting : goal.returns-clause-waiting
returns-clause-waiting c = bytes_are c.args.image.now c.args.base c.args.desc.now c.unread_bytes.result c.unread_bytes.ensures.waiting

pub returns-clause-passes : goal.returns-clause-passes
returns-clause-passes c = passes c.args.image.now c.args.base c.args.desc.now c.unread_bytes.result c.unread_bytes.ensures.waiting

pub returns-clause-refused : goal.returns-clause-refused
returns-clause-refused c = refused c.args.image.now c.args.base c.args.desc.now c.unread_bytes.result c.unread_bytes.ensures.refused
