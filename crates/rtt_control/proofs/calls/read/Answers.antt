use Rattle.std.proofs.Common.{◌≡◌, ℕ, List}
use Rattle.std.specs.Prelude.{Result, Ok, Err, IfOk, IfErr, OnOk}
use Rattle.rtt_control.specs.declared.block.Block.{Block}
use Rattle.rtt_control.specs.declared.fault.ControlFault.{ControlFault}
use Rattle.rtt_control.specs.Layout.{block_of}
use Rattle.rtt_control.specs.Checks.{HasBlock, HasId, IsRefusal, Passes, read_subject}
use Rattle.rtt_control.specs.Control.{IsAnswer, block_at}
use Rattle.rtt_control.proofs.Refusals.{read_passes, read_refusal}
use Rattle.rtt_control.proofs.calls.read.Goals as goal

block_is : (image : List ℕ) (base at : ℕ) (r : Result Block ControlFault) → IfOk r (λ b. block_at image base at ≡ Ok b) → IfOk r (λ b. b ≡ block_of image at)
block_is image base at (Ok b) is = (read_passes image base at b is).1
block_is image base at (Err fault) is = tt

passes : (image : List ℕ) (base at : ℕ) (r : Result Block ControlFault) → IfOk r (λ b. block_at image base at ≡ Ok b)
    → OnOk r (Passes (HasId image at) (HasBlock image at) (read_subject image base at))
passes image base at (Ok b) is = (read_passes image base at b is).0
passes image base at (Err fault) is = tt

refused : (image : List ℕ) (base at : ℕ) (r : Result Block ControlFault) → IfErr r (IsAnswer (block_at image base at))
    → IfErr r (IsRefusal (HasId image at) (HasBlock image at) (read_subject image base at) at)
refused image base at (Ok b) is = tt
refused image base at (Err fault) is = read_refusal image base at fault is

pub returns-clause-block : goal.returns-clause-block
returns-clause-block c = block_is c.args.image.now c.args.base c.args.at c.read_block.result c.read_block.ensures.answer

pub returns-clause-passes : goal.returns-clause-passes
returns-clause-passes c = passes c.args.image.now c.args.base c.args.at c.read_block.result c.read_block.ensures.answer

pub returns-clause-refused : goal.returns-clause-refused
returns-clause-refused c = refused c.args.image.now c.args.base c.args.at c.read_block.result c.read_block.ensures.fault
