use Rattle.std.proofs.Common.{◌≡◌, length}
use Rattle.std.specs.Map.{lookup}
use Rattle.std.specs.Str.{bytes_eq}
use Rattle.defmt_hooks.proofs.floors.Floors.get.Given as goal

abbrev pub invariant-loop-left : goal.invariant-loop-left
invariant-loop-left l = lookup (bytes_eq l.name) l.left ≡ lookup (bytes_eq l.name) l.fn.self

abbrev pub decreases-loop-left : goal.decreases-loop-left
decreases-loop-left l = length l.left
