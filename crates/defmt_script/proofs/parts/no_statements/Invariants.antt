use Rattle.std.proofs.Common.{◌≡◌, [], replicate}
use Rattle.defmt_script.proofs.parts.no_statements.Given as goal

abbrev pub invariant-loop : goal.invariant-loop
invariant-loop l = l.writers.items ≡ replicate l.counter []
