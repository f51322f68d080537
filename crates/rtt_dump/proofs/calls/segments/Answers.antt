use Rattle.std.proofs.Common.{◌≡◌, ℕ, List}
use Rattle.std.specs.Prelude.{None, Result, Ok, Err, IfErr, OnOk}
use Rattle.rtt_dump.specs.Checks.{FilePasses, IsFileFault}
use Rattle.rtt_dump.specs.Faults.{IsFault}
use Rattle.rtt_dump.specs.Flaws.{file_refusal}
use Rattle.rtt_dump.specs.declared.fault.DumpFault.{DumpFault}
use Rattle.rtt_dump.proofs.RefusalLaws.{file_all, file_fault_of}
use Rattle.rtt_dump.proofs.calls.segments.Goals as goal

passes : {T : Type 0} (file : List ℕ) (base : ℕ) (r : Result T DumpFault) → OnOk r (file_refusal file base ≡ None) → OnOk r (FilePasses file base)
passes file base (Ok v) is = file_all file base is
passes file base (Err fault) is = tt

refused : {T : Type 0} (file : List ℕ) (base : ℕ) (r : Result T DumpFault) → IfErr r (IsFault (file_refusal file base)) → IfErr r (IsFileFault file base)
refused file base (Ok v) is = tt
refused file base (Err fault) is = file_fault_of file base fault is

pub returns-clause-passes : goal.returns-clause-passes
returns-clause-passes c = passes c.args.file.now c.args.base c.copied_segments.result c.copied_segments.ensures.none

pub returns-clause-refused : goal.returns-clause-refused
returns-clause-refused c = refused c.args.file.now c.args.base c.copied_segments.result c.copied_segments.ensures.fault
