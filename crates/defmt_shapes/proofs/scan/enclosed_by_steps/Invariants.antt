use Rattle.std.proofs.Common.{length, reverse}
use Rattle.std.specs.Str.{IsUtf8}
use Rattle.defmt_shapes.specs.Scan.{InBrackets}
use Rattle.defmt_shapes.proofs.scan.enclosed_by_steps.Given as goal

abbrev pub invariant-steps : goal.invariant-steps
invariant-steps l = record { brackets : InBrackets l.language l.fn.first l.text l.bracket (reverse l.outer.items) l.place l.rest; utf8 : IsUtf8 l.rest }

abbrev pub decreases-steps : goal.decreases-steps
decreases-steps l = length l.rest
