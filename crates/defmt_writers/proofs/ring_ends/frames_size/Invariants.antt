use Rattle.std.proofs.Common.{◌≡◌, ◌+◌, drop}
use Rattle.defmt_script.specs.Script.{count_all}
use Rattle.defmt_writers.proofs.ring_ends.frames_size.Given as goal

abbrev pub invariant-loop-writer : goal.invariant-loop-writer
invariant-loop-writer l = l.count + count_all (drop l.writer l.script.writers) ≡ count_all l.script.writers
