use Rattle.std.proofs.Common.{◌≡◌, ℕ, List}
use Rattle.std.specs.Prelude.{None, Result, Ok, Err, IfErr, OnOk}
use Rattle.rtt_dump.specs.Answers.{refusal}
use Rattle.rtt_dump.specs.Checks.{IsDumpFault, Passes}
use Rattle.rtt_dump.specs.Faults.{IsFault}
use Rattle.rtt_dump.specs.declared.fault.DumpFault.{DumpFault}
use Rattle.rtt_dump.proofs.RefusalLaws.{image_all, image_fault_of}
use Rattle.rtt_dump.proofs.calls.dumped.Goals as goal

passes : {T : Type 0} (file : List ℕ) (base up : ℕ) (r : Result T DumpFault) → OnOk r (refusal file base up ≡ None) → OnOk r (Passes file base up)
passes file base up (Ok v) is = image_all file base up is
passes file base up (Err fault) is = tt

refused : {T : Type 0} (file : List ℕ) (base up : ℕ) (r : Result T DumpFault) → IfErr r (IsFault (refusal file base up)) → IfErr r (IsDumpFault file base up)
refused file base up (Ok v) is = tt
refused file base up (Err fault) is = image_fault_of file base up fault is

pub returns-clause-passes : goal.returns-clause-passes
returns-clause-passes c = passes c.args.file.now c.args.base c.args.up c.dump_of.result c.dump_of.ensures.none

pub returns-clause-refused : goal.returns-clause-refused
returns-clause-refused c = refused c.args.file.now c.args.base c.args.up c.dump_of.result c.dump_of.ensures.fault
