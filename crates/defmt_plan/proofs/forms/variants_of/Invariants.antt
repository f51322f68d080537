use Rattle.std.proofs.Common.{drop}
use Rattle.defmt_plan.proofs.Forming.{MadeVariants}
use Rattle.defmt_plan.proofs.forms.variants_of.Given as goal

abbrev pub invariant-loop-pieces : goal.invariant-loop-pieces
invariant-loop-pieces l = MadeVariants l.fn.forms l.all.items (drop l.pieces-index l.forms)
