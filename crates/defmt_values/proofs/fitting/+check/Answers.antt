use Rattle.std.proofs.Common.{◌∙◌}
use Rattle.std.proofs.lemmas.Result.{err_from_is_err_and}
use Rattle.defmt_values.proofs.Scans as scans
use Rattle.defmt_values.specs.Now.{now_of}
use Rattle.defmt_values.proofs.fitting.+check.Goals as goal

pub check_args-returns-in_default-cut-clause-value : goal.check_args-returns-in_default-cut-clause-value
check_args-returns-in_default-cut-clause-value t c =
    scans.too_many c.args.table.now.entries c.args.left c.args.weight c.args.pieces.now c.each.position c.each.slots.now c.each.total c.each.values.now c.in-Some.value.now c.in-Some.more.now c.in-Some.ensures c.in_default-cut.ensures ∙ c.each.invariant.same

pub check_args-returns-in_err-total-clause-value : goal.check_args-returns-in_err-total-clause-value
check_args-returns-in_err-total-clause-value t c =
    let p = err_from_is_err_and c.from_residual.result c.from_residual.ensures.1 in
    rw (p.1, p.2) (scans.refused c.args.table.now.entries c.args.left c.args.weight c.args.pieces.now c.each.position c.each.slots.now c.each.total c.each.values.now c.in-Some.value.now c.in-Some.more.now c.in-Some-cut.slot.now c.in-Some-cut.others.now c.in_err-total.field-0.0 c.saturating_mul-weight_there.result c.in-Some.ensures c.in-Some-cut.ensures (rw (← c.uses.ensures) c.saturating_mul-weight_there.ensures) c.in_err-total.ensures.value ∙ c.each.invariant.same)

pub check_args-each-preserved : goal.check_args-each-preserved
check_args-each-preserved t c = record {
  small = c.in_ok-total.ensures.small;
  few = scans.few_left c.each.position c.each.slots.now c.in-Some-cut.slot.now c.in-Some-cut.others.now c.in-Some-cut.ensures c.each.invariant.few;
  same = scans.passed c.args.table.now.entries c.args.left c.args.weight c.args.pieces.now c.each.position c.each.slots.now c.each.total c.each.values.now c.in-Some.value.now c.in-Some.more.now c.in-Some-cut.slot.now c.in-Some-cut.others.now c.in_ok-total.total c.saturating_mul-weight_there.result c.in-Some.ensures c.in-Some-cut.ensures (rw (← c.uses.ensures) c.saturating_mul-weight_there.ensures) c.in_ok-total.ensures.value ∙ c.each.invariant.same;
}

pub check_args-returns-in-None-clause-value : goal.check_args-returns-in-None-clause-value
check_args-returns-in-None-clause-value t c =
    scans.ended c.args.table.now.entries c.args.left c.args.weight c.args.pieces.now c.each.position c.each.slots.now c.each.total c.each.values.now c.in_default.ensures c.in-None.ensures ∙ c.each.invariant.same

pub check_args-returns-in-Some-cut-2-clause-value : goal.check_args-returns-in-Some-cut-2-clause-value
check_args-returns-in-Some-cut-2-clause-value t c =
    scans.too_few c.args.table.now.entries c.args.left c.args.weight c.args.pieces.now c.each.position c.each.slots.now c.each.total c.each.values.now c.in-Some-cut-2.field-0.0.now c.in-Some-cut-2.field-0.1.now c.in_default.ensures c.in-Some-cut-2.ensures ∙ c.each.invariant.same

pub check_items-returns-in_err-total-clause-value : goal.check_items-returns-in_err-total-clause-value
check_items-returns-in_err-total-clause-value t c =
    let p = err_from_is_err_and c.from_residual.result c.from_residual.ensures.1 in
    rw (p.1, p.2) (scans.too_heavy c.args.table.now.entries c.args.left c.args.weight c.args.form.now c.each.total c.each.rest.now c.in-Some.item.now c.in-Some.more.now c.in-Some.ensures c.in_err-total.field-0.0 c.in_err-total.ensures.value ∙ c.each.invariant.same)

pub check_items-returns-in_err-pieces-clause-value : goal.check_items-returns-in_err-pieces-clause-value
check_items-returns-in_err-pieces-clause-value t c =
    let p = err_from_is_err_and c.from_residual-in_err-pieces.result c.from_residual-in_err-pieces.ensures.1 in
    rw (p.1, p.2) (scans.not_there c.args.table.now.entries c.args.left c.args.weight c.args.form.now c.each.total c.each.rest.now c.in-Some.item.now c.in-Some.more.now c.in-Some.ensures c.in_ok-total.total c.in_err-pieces.field-0.0 c.in_ok-total.ensures.value c.in_err-pieces.ensures ∙ c.each.invariant.same)

pub check_items-returns-in_err-total-2-clause-value : goal.check_items-returns-in_err-total-2-clause-value
check_items-returns-in_err-total-2-clause-value t c =
    let p = err_from_is_err_and c.from_residual-in_err-total-2.result c.from_residual-in_err-total-2.ensures.1 in
    rw (p.1, p.2) (scans.elem_refused c.args.table.now.entries c.args.left c.args.weight c.args.form.now c.each.total c.each.rest.now c.in-Some.item.now c.in-Some.more.now c.in-Some.ensures c.in_ok-total.total c.in_err-total-2.field-0.0 c.in_ok-pieces.pieces.now c.in_ok-total.ensures.value c.in_ok-pieces.ensures c.in_err-total-2.ensures.value ∙ c.each.invariant.same)

pub check_items-each-preserved : goal.check_items-each-preserved
check_items-each-preserved t c = record {
  small = c.in_ok-total-2.ensures.small;
  same = scans.elem_passed c.args.table.now.entries c.args.left c.args.weight c.args.form.now c.each.total c.each.rest.now c.in-Some.item.now c.in-Some.more.now c.in-Some.ensures c.in_ok-total.total c.in_ok-total-2.total c.in_ok-pieces.pieces.now c.in_ok-total.ensures.value c.in_ok-pieces.ensures c.in_ok-total-2.ensures.value ∙ c.each.invariant.same;
}

pub check_items-returns-clause-value : goal.check_items-returns-clause-value
check_items-returns-clause-value t c =
    scans.elems_ended c.args.table.now.entries c.args.left c.args.weight c.args.form.now c.each.total c.each.rest.now c.in_default.ensures ∙ c.each.invariant.same

pub check_nodes-returns-in_err-pieces-clause-value : goal.check_nodes-returns-in_err-pieces-clause-value
check_nodes-returns-in_err-pieces-clause-value t c =
    let p = err_from_is_err_and c.from_residual.result c.from_residual.ensures.1 in
    rw (p.1, p.2) (scans.node_closed c.args.table.now.entries c.args.left c.args.weight c.each.total c.each.rest.now c.in-Some.node.now c.in-Some.more.now c.in-Some.ensures (now_of c.element_form-form.result) c.element_form-form.ensures c.in_err-pieces.field-0.0 c.in_err-pieces.ensures.value ∙ c.each.invariant.same)

pub check_nodes-returns-in_err-total-clause-value : goal.check_nodes-returns-in_err-total-clause-value
check_nodes-returns-in_err-total-clause-value t c =
    let p = err_from_is_err_and c.from_residual-in_err-total.result c.from_residual-in_err-total.ensures.1 in
    rw (p.1, p.2) (scans.node_refused c.args.table.now.entries c.args.left c.args.weight c.each.total c.each.rest.now c.in-Some.node.now c.in-Some.more.now c.in-Some.ensures (now_of c.element_form-form.result) c.element_form-form.ensures c.in_ok-pieces.opened c.in_err-total.field-0.0 c.in_ok-pieces.pieces.now c.in_ok-pieces.ensures.value c.in_err-total.ensures.value ∙ c.each.invariant.same)

pub check_nodes-each-preserved : goal.check_nodes-each-preserved
check_nodes-each-preserved t c = record {
  small = c.in_ok-total.ensures.small;
  same = scans.node_passed c.args.table.now.entries c.args.left c.args.weight c.each.total c.each.rest.now c.in-Some.node.now c.in-Some.more.now c.in-Some.ensures (now_of c.element_form-form.result) c.element_form-form.ensures c.in_ok-pieces.opened c.in_ok-total.total c.in_ok-pieces.pieces.now c.in_ok-pieces.ensures.value c.in_ok-total.ensures.value ∙ c.each.invariant.same;
}

pub check_nodes-returns-clause-value : goal.check_nodes-returns-clause-value
check_nodes-returns-clause-value t c =
    scans.nodes_ended c.args.table.now.entries c.args.left c.args.weight c.each.total c.each.rest.now c.in_default.ensures ∙ c.each.invariant.same

pub check_value-returns-in_err-check_leaf-in_default : goal.check_value-returns-in_err-check_leaf-in_default
check_value-returns-in_err-check_leaf-in_default t c =
    let p = err_from_is_err_and c.from_residual-in_err-check_leaf-in_default.result c.from_residual-in_err-check_leaf-in_default.ensures.1 in
    rw (p.1, p.2) (record {
      value = scans.leaf_refused c.args.table.now.entries c.args.left c.args.slot c.args.weight c.args.sum c.args.value.now c.in_default.not-Format c.in_default.not-Seq c.in_default.not-Sequence c.check_leaf.result c.check_leaf.ensures c.in_err-check_leaf-in_default.field-0.0 c.in_err-check_leaf-in_default.was;
      small = tt;
    })

pub check_value-returns-in_ok-check_leaf-in_default : goal.check_value-returns-in_ok-check_leaf-in_default
check_value-returns-in_ok-check_leaf-in_default t c = record {
  value = scans.leaf_passed c.args.table.now.entries c.args.left c.args.slot c.args.weight c.args.sum c.args.value.now c.in_default.not-Format c.in_default.not-Seq c.in_default.not-Sequence c.check_leaf.result c.check_leaf.ensures c.in_ok-check_leaf-in_default.field-0 c.in_ok-check_leaf-in_default.was;
  small = c.requires.sum;
}
