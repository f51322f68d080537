-- What an image is refused for, as a function of the file and the arguments.
use Rattle.std.specs.Prelude.{ℕ, List, length, nat_lt, Option, Some, None, Result, Ok, Err, if◌then◌else◌}
use Rattle.std.specs.Option.{option_or}
use Rattle.rtt_control.specs.Control.{block_at}
use Rattle.rtt_control.specs.Layout.{block_of}
use Rattle.rtt_control.specs.declared.block.Block.{Block}
use Rattle.rtt_control.specs.declared.fault.ControlFault.{ControlFault}
use Rattle.rtt_dump.specs.Dump.{first_id, holder}
use Rattle.rtt_dump.specs.Faults.{of_block, refused}
use Rattle.rtt_dump.specs.Flaws.{file_refusal}
use Rattle.rtt_dump.specs.Ids.{id_refusal, ids}
use Rattle.rtt_dump.specs.Segments.{Region, regions}
use Rattle.rtt_dump.specs.declared.fault.Cause.TheVariants.{NoChannel}
use Rattle.rtt_dump.specs.declared.fault.DumpFault.{DumpFault}

-- what a block is refused for
abbrev pub block_refusal : Result Block ControlFault → Option DumpFault
block_refusal (Ok block) = None
block_refusal (Err fault) = Some (of_block fault)

-- the block's refusal, or that of the channel
abbrev pub channel_refusal : Region → ℕ → ℕ → Option DumpFault
channel_refusal region at up = option_or (block_refusal (block_at region.bytes region.base at))
    (if nat_lt up (length (block_of region.bytes at).up) then None else Some (refused NoChannel up))

-- the first of the refusals: of the file, of the ID, of the block at the ID, of the channel
abbrev pub refusal : List ℕ → ℕ → ℕ → Option DumpFault
refusal file base up = let all = regions file base in
    option_or (file_refusal file base) (option_or (id_refusal (ids all)) (channel_refusal (holder all) (first_id all).at up))
