use Rattle.std.proofs.Common.{◌≡◌, string_bytes}
use Rattle.defmt_generate.specs.Generated.{generated}
use Rattle.defmt_generate.proofs.script.generate.Given as goal

abbrev pub invariant-loop-i : goal.invariant-loop-i
invariant-loop-i l = string_bytes l.text ≡ generated l.i
