use Rattle.defmt_hints.proofs.Runs.{Runs}
use Rattle.defmt_hints.specs.Quotings.{escape_in}
use Rattle.defmt_hints.proofs.quoted.put_escaped.Given as goal

abbrev pub invariant-loop-i : goal.invariant-loop-i
invariant-loop-i l = Runs (escape_in l.quoting) l.fn.out l.at l.text l.out l.end l.start l.i
