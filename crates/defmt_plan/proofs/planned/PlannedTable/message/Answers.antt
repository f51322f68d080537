use Rattle.std.proofs.Common.{refl, sym, arith, subst, ap, ◌∙◌}
use Rattle.defmt_intern.specs.Catalog.{Catalog}
use Rattle.defmt_intern.specs.declared.table.Profile.{Profile}
use Rattle.defmt_encode.proofs.Zeros.{padding_is}
use Rattle.defmt_hints.proofs.Chains.{kept_two, kept_written, written_end}
use Rattle.defmt_plan.proofs.Fronting.{fronted, front_fails}
use Rattle.defmt_plan.proofs.Telling.{told_all}
use Rattle.defmt_plan.specs.Told.{IsHead}
use Rattle.defmt_plan.proofs.planned.PlannedTable.message.Goals as goal

pub returns-in_err-start : goal.returns-in_err-start
returns-in_err-start c = rw c.from_residual-in_err-start.ensures (front_fails c.in_ok-plan.plan.now.front _ c.args.out.now c.stamp.new.out c.put_front.new.out c.args.at c.in_ok-stamped.stamped.written c.requires c.in_ok-stamped.ensures.written.written c.in_err-start.ensures)

pub returns-in_err-said : goal.returns-in_err-said
returns-in_err-said c =
    let f = fronted c.in_ok-plan.plan.now.front _ c.args.out.now c.stamp.new.out c.put_front.new.out c.args.at c.in_ok-stamped.stamped.written c.in_ok-start.start c.requires c.in_ok-stamped.ensures.written.written c.in_ok-start.ensures in
    rw c.from_residual-in_err-said.ensures (kept_two c.args.out.now c.put_front.new.out c.arguments.new.out c.args.at c.in_ok-start.start f.behind f.kept (c.in_err-said.ensures c.in_ok-plan.ensures.is))

pub returns-then-not-is_padding : goal.returns-then-not-is_padding
returns-then-not-is_padding c =
    let f = fronted c.in_ok-plan.plan.now.front _ c.args.out.now c.stamp.new.out c.put_front.new.out c.args.at c.in_ok-stamped.stamped.written c.in_ok-start.start c.requires c.in_ok-stamped.ensures.written.written c.in_ok-start.ensures in
    kept_two c.args.out.now c.put_front.new.out c.arguments.new.out c.args.at c.in_ok-start.start f.behind f.kept
    (kept_written c.put_front.new.out c.arguments.new.out c.in_ok-start.start c.in_ok-said.said.written _ f.within (c.in_ok-said.ensures c.in_ok-plan.ensures.is).written.written)

pub returns : goal.returns
returns c = told_all c.args.self.now c.in_ok-plan.plan.now c.in_ok-head.head c.args.bytes.now c.args.size c.parts_of.result _ c.in_ok-stamped.stamped.read c.in_ok-said.said.read c.args.out.now c.stamp.new.out c.put_front.new.out c.arguments.new.out c.args.at c.in_ok-stamped.stamped.written c.in_ok-start.start c.in_ok-said.said.written c.requires (omega arith) c.in_ok-plan.ensures.at c.in_ok-plan.ensures.is
    (subst (λ (p : Profile). IsHead p c.args.bytes.now c.in_ok-head.head) (c.profile.ensures ∙ ap (λ (t : Catalog). t.profile) c.self.view_is) c.in_ok-head.ensures)
    c.in_ok-stamped.ensures (c.parts_of.ensures c.args.self.now.entries c.in_ok-stamped.ensures.stamp c.in_ok-plan.ensures.is (omega (arith, written_end _ _ c.args.at _ _ c.requires c.in_ok-stamped.ensures.written.written))) c.in_ok-start.ensures (c.in_ok-said.ensures c.in_ok-plan.ensures.is) refl (padding_is _ (sym c.is_padding.ensures ∙ c.if-not-is_padding.false))

pub overflow_sub-stamped : goal.overflow_sub-stamped
overflow_sub-stamped c = omega (arith, written_end _ _ c.args.at _ _ c.requires c.in_ok-stamped.ensures.written.written)

pub slice_bounds-is_padding-count : goal.slice_bounds-is_padding-count
slice_bounds-is_padding-count c = let h = c.in_ok-said.ensures c.in_ok-plan.ensures.is in omega (arith, h.carried.within)

pub slice_bounds-is_padding-start : goal.slice_bounds-is_padding-start
slice_bounds-is_padding-start c = let h = c.in_ok-said.ensures c.in_ok-plan.ensures.is in omega (arith, h.carried.within)
