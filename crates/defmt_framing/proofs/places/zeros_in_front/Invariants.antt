use Rattle.std.proofs.Common.{◌≡◌, take, replicate}
use Rattle.defmt_framing.proofs.places.zeros_in_front.Given as goal

abbrev pub invariant-loop-i : goal.invariant-loop-i
invariant-loop-i l = take l.i l.bytes ≡ replicate l.i 0
