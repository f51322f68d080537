use Rattle.std.proofs.Common.{List, subst}
use Rattle.defmt_grammar.specs.declared.piece.Piece.{Piece}
use Rattle.defmt_plan.specs.Steps.{AreSteps}
use Rattle.defmt_plan.proofs.forms.body_of_one.Goals as goal

pub returns : goal.returns
returns c = subst (λ (ps : List Piece). AreSteps c.args.pieces.now ps c.in-Some.steps.items) c.as_slice.ensures.pieces (rw c.in-Some.is at c.in_ok-steps.ensures)
