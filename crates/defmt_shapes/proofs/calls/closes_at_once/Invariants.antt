use Rattle.std.proofs.Common.{◌≡◌, length}
use Rattle.defmt_shapes.specs.Spelling.{closes_at_once}
use Rattle.defmt_shapes.proofs.calls.closes_at_once.Given as goal

abbrev pub invariant-each : goal.invariant-each
invariant-each l = closes_at_once l.bytes ≡ closes_at_once l.rest

abbrev pub decreases-each : goal.decreases-each
decreases-each l = length l.rest
