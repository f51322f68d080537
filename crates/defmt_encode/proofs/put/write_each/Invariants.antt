use Rattle.defmt_encode.proofs.Numbers.{Written}
use Rattle.defmt_encode.proofs.put.write_each.Given as goal

abbrev pub invariant-loop-byte : goal.invariant-loop-byte
invariant-loop-byte l = Written l.bytes l.byte-index l.n l.left
