use Rattle.std.proofs.Common.{length, true}
use Rattle.defmt_forms.proofs.Blocks.{Passed}
use Rattle.defmt_forms.specs.Tamed.{is_bare}
use Rattle.defmt_forms.proofs.looks.are_bare.Given as goal

abbrev pub invariant-blocks-2 : goal.invariant-blocks-2
invariant-blocks-2 l = Passed is_bare l.fn.text l.rest true

abbrev pub decreases-blocks-2 : goal.decreases-blocks-2
decreases-blocks-2 l = length l.rest
