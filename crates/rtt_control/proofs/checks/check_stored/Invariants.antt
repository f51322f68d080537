use Rattle.std.proofs.Common.{◌≡◌, length}
use Rattle.std.specs.Prelude.{None}
use Rattle.rtt_control.specs.Control.{first_refusal}
use Rattle.rtt_control.specs.Layout.{descriptors_at}
use Rattle.rtt_control.proofs.checks.check_stored.Given as goal

abbrev pub invariant-loop-i : goal.invariant-loop-i
invariant-loop-i l = first_refusal (length l.image) l.base 0 (descriptors_at l.image l.at l.i) ≡ None
