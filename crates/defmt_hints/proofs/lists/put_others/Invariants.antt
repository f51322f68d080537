use Rattle.std.proofs.Common.{drop}
use Rattle.defmt_hints.specs.Printed.{printed_byte}
use Rattle.defmt_hints.proofs.Chains.{Pending}
use Rattle.defmt_hints.specs.Lists.{others_text}
use Rattle.defmt_hints.proofs.lists.put_others.Given as goal

abbrev pub invariant-loop-byte : goal.invariant-loop-byte
invariant-loop-byte l = Pending l.fn.out l.at (others_text (printed_byte l.hint) l.others) l.out l.end (others_text (printed_byte l.hint) (drop l.byte-index l.others))
