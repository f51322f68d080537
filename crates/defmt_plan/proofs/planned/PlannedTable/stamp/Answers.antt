use Rattle.std.proofs.Common.{List, [], ◌∷◌, refl, subst}
use Rattle.defmt_encode.proofs.Laws.{bytes_fit}
use Rattle.defmt_intern.specs.Catalog.{Catalog}
use Rattle.defmt_plan.proofs.Running.{runs_one}
use Rattle.defmt_plan.proofs.Telling.{stamp_none, stamp_steps}
use Rattle.defmt_plan.specs.Plans.{SaysStamp}
use Rattle.defmt_plan.specs.Steps.{number_step}
use Rattle.defmt_plan.specs.declared.steps.Step.{Step}
use Rattle.defmt_plan.proofs.planned.PlannedTable.stamp.Goals as goal

pub returns-in-Missing : goal.returns-in-Missing
returns-in-Missing c =
    stamp_none c.args.self.now.entries c.args.bytes.now c.args.from c.args.out.now c.args.at
    (rw c.in-Missing.is at (subst (λ (t : Catalog). SaysStamp t.entries c.self.inside.stamp) c.self.view_is c.self.invariant.0)) c.requires.read c.requires.written

pub returns-in-Number : goal.returns-in-Number
returns-in-Number c =
    let whole : List Step = number_step c.in-Number.size c.in-Number.hint ∷ [] in
    stamp_steps c.pass_uint.result c.args.self.now.entries whole c.args.bytes.now c.args.from c.args.out.now c.args.at c.pass_uint.new.out
    (rw c.in-Number.is at (subst (λ (t : Catalog). SaysStamp t.entries c.self.inside.stamp) c.self.view_is c.self.invariant.0))
    (λ t all pieces are.
    runs_one t whole c.args.bytes.now c.args.from c.args.at c.args.out.now c.in-Number.size c.in-Number.hint c.pass_uint.new.out c.pass_uint.result refl (bytes_fit c.args.bytes.now c.type_inv.bytes) c.requires.read c.requires.written (c.pass_uint.ensures t) all pieces are)

pub returns-in-Steps : goal.returns-in-Steps
returns-in-Steps c =
    rw c.read_at_once.ensures (stamp_steps c.run_all.result c.args.self.now.entries c.in-Steps.steps.items c.args.bytes.now c.args.from c.args.out.now c.args.at c.run_all.new.out
    (rw c.in-Steps.is at (subst (λ (t : Catalog). SaysStamp t.entries c.self.inside.stamp) c.self.view_is c.self.invariant.0))
    (rw c.deref.ensures.value at c.run_all.ensures))
