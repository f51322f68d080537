use Rattle.std.proofs.Common.{◌≡◌, ◌++◌, length}
use Rattle.defmt_spelling.specs.Printed.{hex_text}
use Rattle.defmt_spelling.proofs.marks.push_hex.Given as goal

abbrev pub invariant-each : goal.invariant-each
invariant-each l = l.out ++ hex_text l.rest ≡ l.initial.out ++ hex_text l.bytes

abbrev pub decreases-each : goal.decreases-each
decreases-each l = length l.rest
