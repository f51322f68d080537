use Rattle.std.proofs.Common.{◌++◌, List, ℕ, codes, is_some, ap, ◌∙◌}
use Rattle.defmt_eager.specs.Line.{level_text}
use Rattle.defmt_intern.specs.Stamp.{stamp_of}
use Rattle.defmt_plan.proofs.Planning.{space_is, front_none, front_some}
use Rattle.defmt_plan.specs.Plans.{space_if}
use Rattle.defmt_plan.proofs.plan.front_of.Goals as goal

pub returns-in_default : goal.returns-in_default
returns-in_default c = front_none c.args.table.now.entries (level_text c.args.tag.now) c.args.pieces.now c.in_default.ensures.text

pub returns : goal.returns
returns c =
    front_some c.args.table.now.entries (level_text c.args.tag.now) c.in-Some.level.now c.args.pieces.now c.in_ok-rest.rest.now c.in_ok-front.front c.take_lead.new.front c.in-Some.ensures.text
    (c.in_ok-front.ensures ∙ ap (λ (x : List ℕ). x ++ (c.in-Some.level.now ++ codes " ")) (ap space_if (c.is_some.ensures ∙ ap is_some c.stamp.ensures) ∙ space_is (stamp_of c.args.table.now.entries)))
    c.in_ok-rest.ensures
