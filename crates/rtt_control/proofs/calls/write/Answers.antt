use Rattle.std.proofs.Common.{◌≡◌, ℕ, List}
use Rattle.std.specs.Prelude.{Result, Ok, Err, IfErr, OnOk}
use Rattle.rtt_control.specs.declared.block.Block.{Block}
use Rattle.rtt_control.specs.declared.fault.ControlFault.{ControlFault}
use Rattle.rtt_control.specs.Layout.{block_bytes, with_bytes}
use Rattle.rtt_control.specs.Checks.{HasSpace, IsFirstRefusal, Passes, write_subject}
use Rattle.rtt_control.specs.Control.{written}
use Rattle.rtt_control.proofs.Refusals.{write_passes, write_refused}
use Rattle.rtt_control.proofs.calls.write.Goals as goal

put : {T : Type 0} (block : Block) (image new : List ℕ) (base at : ℕ) (r : Result T ControlFault) → OnOk r (written block image base at ≡ Ok new)
    → OnOk r (new ≡ with_bytes image at (block_bytes block.up block.down))
put block image new base at (Ok done) is = (write_passes block image new base at is).1
put block image new base at (Err fault) is = tt

passes : {T : Type 0} (block : Block) (image new : List ℕ) (base at : ℕ) (r : Result T ControlFault) → OnOk r (written block image base at ≡ Ok new)
    → OnOk r (Passes (Unit {0}) (HasSpace image at block) (write_subject image base block))
passes block image new base at (Ok done) is = (write_passes block image new base at is).0
passes block image new base at (Err fault) is = tt

refused : {T : Type 0} (block : Block) (image : List ℕ) (base at : ℕ) (r : Result T ControlFault) → IfErr r (λ fault. written block image base at ≡ Err fault)
    → IfErr r (IsFirstRefusal (Unit {0}) (HasSpace image at block) (write_subject image base block) at)
refused block image base at (Ok done) is = tt
refused block image base at (Err fault) is = write_refused block image base at fault is

pub returns-clause-written : goal.returns-clause-written
returns-clause-written c = put c.args.block.now c.args.image.now c.write_block.new.image c.args.base c.args.at c.write_block.result c.write_block.ensures.answer

pub returns-clause-passes : goal.returns-clause-passes
returns-clause-passes c = passes c.args.block.now c.args.image.now c.write_block.new.image c.args.base c.args.at c.write_block.result c.write_block.ensures.answer

pub returns-clause-refused : goal.returns-clause-refused
returns-clause-refused c = refused c.args.block.now c.args.image.now c.args.base c.args.at c.write_block.result c.write_block.ensures.fault
