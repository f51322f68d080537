use Rattle.std.proofs.Common.{◌+◌, drop, drop_of_length-le, List, subst}
use Rattle.defmt_grammar.specs.declared.piece.Piece.{Piece}
use Rattle.defmt_plan.proofs.Forming.{next_form, variants_all, variants_more, variants_none}
use Rattle.defmt_plan.specs.Steps.{AreSteps}
use Rattle.defmt_plan.proofs.forms.variants_of.Goals as goal

pub loop-pieces-init : goal.loop-pieces-init
loop-pieces-init c = rw c.new-all.ensures.items (variants_none c.args.forms.now)

pub loop-pieces-preserved : goal.loop-pieces-preserved
loop-pieces-preserved c =
    variants_more c.args.forms.now c.loop-pieces.all.items _ _ (drop (c.loop-pieces.pieces-index + 1) c.args.forms.now) c.pieces-item.result c.in-Some.steps c.loop-pieces.invariant
    (next_form c.args.forms.now c.loop-pieces.pieces-index c.pieces-item.result c.loop-pieces-test.true c.pieces-item.is)
    (subst (λ (ps : List Piece). AreSteps c.pieces-item.result ps c.in-Some.steps.items) c.as_slice.ensures.pieces (rw c.in-Some.is at c.in_ok-steps.ensures)) c.in_ok-push.ensures.items

pub returns : goal.returns
returns c = variants_all c.args.forms.now c.loop-pieces.all.items _ c.loop-pieces.invariant (drop_of_length-le c.args.forms.now c.loop-pieces-test.false)
