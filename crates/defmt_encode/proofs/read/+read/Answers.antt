use Rattle.std.proofs.Common.{ap, ◌∙◌, ◌*◌, ◌-◌, length, arith, rules}
use Rattle.std.proofs.lemmas.Result.{err_from_is_err_and}
use Rattle.defmt_values.proofs.Scans.{few_left}
use Rattle.defmt_encode.specs.Read.{below}
use Rattle.defmt_encode.proofs.Joins as joins
use Rattle.defmt_encode.proofs.read.+read.Goals as goal

pub read_into-returns-in_err-value : goal.read_into-returns-in_err-value
read_into-returns-in_err-value t c =
    let p = err_from_is_err_and c.from_residual.result c.from_residual.ensures.1 in
    rw (p.1, p.2) (joins.failed c.args.table.now.entries c.args.left c.args.weight c.args.pieces.now c.each.position c.each.slots.now c.each.args c.each.total c.each.rest.now c.in-Some.slot.now c.in-Some.others.now (c.uses.result * c.args.weight) c.in-Some.ensures (ap (λ n. n * c.args.weight) c.uses.ensures) c.in_err-value.field-0.0 _ c.each.invariant.same c.in_err-value.ensures)

pub read_into-each-preserved : goal.read_into-each-preserved
read_into-each-preserved t c = record {
  few = few_left c.each.position c.each.slots.now c.in-Some.slot.now c.in-Some.others.now c.in-Some.ensures c.each.invariant.few;
  sound = joins.sound_left c.each.slots.now c.in-Some.others.now c.in-Some.slot.now c.in-Some.ensures c.each.invariant.sound;
  same = rw c.in_ok-push.ensures.ok (joins.passed c.args.table.now.entries c.args.left c.args.weight c.args.pieces.now c.each.position c.each.slots.now c.each.args c.each.total c.each.rest.now c.in-Some.slot.now c.in-Some.others.now (c.uses.result * c.args.weight) c.in-Some.ensures (ap (λ n. n * c.args.weight) c.uses.ensures) _ c.in_ok-value.after_sum c.in_ok-value.after.now c.in_ok-value.ensures ∙ c.each.invariant.same);
}

pub read_into-returns : goal.read_into-returns
read_into-returns t c =
    joins.ended c.args.table.now.entries c.args.left c.args.weight c.args.pieces.now c.each.position c.each.slots.now c.each.args c.each.total c.each.rest.now c.in_default.ensures ∙ c.each.invariant.same

pub read_items-returns-in_err-item : goal.read_items-returns-in_err-item
read_items-returns-in_err-item t c =
    let p = err_from_is_err_and c.from_residual.result c.from_residual.ensures.1 in
    rw (p.1, p.2) (joins.elem_failed c.args.table.now.entries c.args.left c.args.weight c.args.form.now c.args.count c.each.counter c.each.items c.each.total c.each.rest.now c.each-test.true c.in_err-item.field-0.0 _ c.each.invariant c.in_err-item.ensures)

pub read_items-each-preserved : goal.read_items-each-preserved
read_items-each-preserved t c = rw c.in_ok-push.ensures.ok (joins.elem_passed c.args.table.now.entries c.args.left c.args.weight c.args.form.now c.args.count c.each.counter c.each.items c.each.total c.each.rest.now c.each-test.true c.in_ok-item.item.variant c.in_ok-item.item.args c.in_ok-item.after_sum c.in_ok-item.after.now c.in_ok-item.ensures ∙ c.each.invariant)

pub read_items-returns : goal.read_items-returns
read_items-returns t c =
    joins.elems_ended c.args.table.now.entries c.args.left c.args.weight c.args.form.now c.args.count c.each.counter c.each.items c.each.total c.each.rest.now (omega arith) ∙ c.each.invariant

pub read_value-returns-in_default : goal.read_value-returns-in_default
read_value-returns-in_default t c = c.read_leaf.ensures (below c.args.table.now.entries c.args.left) c.args.weight

pub read_value-returns-else-left-eq0 : goal.read_value-returns-else-left-eq0
read_value-returns-else-left-eq0 t c =
    joins.node_below c.args.table.now.entries c.args.left (c.args.left - 1) c.args.weight c.args.sum c.args.bytes.now c.args.slot c.read_node.result (search rules) (omega arith) c.read_node.ensures

pub read_node-returns : goal.read_node-returns
read_node-returns t c =
    joins.node_read c.args.table.now.entries c.args.left c.args.weight c.args.sum c.args.bytes.now c.in_ok-index.index c.in_ok-index.rest.now c.in_ok-item.item.variant c.in_ok-item.item.args c.in_ok-item.sum c.in_ok-item.rest.now c.in_ok-index.ensures c.in_ok-item.ensures

pub read_some-returns : goal.read_some-returns
read_some-returns t c =
    joins.list_below c.args.table.now.entries c.args.left (c.args.left - 1) c.args.weight c.args.sum c.args.bytes.now c.args.count c.read_list.result (omega arith) (omega arith) c.read_list.ensures

pub read_list-returns : goal.read_list-returns
read_list-returns t c =
    joins.list_read c.args.table.now.entries c.args.left c.args.weight c.args.sum c.args.bytes.now c.in_ok-index.index c.in_ok-index.rest.now c.in_ok-form.form.now c.args.count c.in_ok-items.items c.in_ok-items.sum c.in_ok-items.rest.now c.in_ok-index.ensures c.in_ok-form.ensures c.in_ok-items.ensures

pub read_items-each-init : goal.read_items-each-init
read_items-each-init t c = rw c.new-items.ensures (joins.elems_begin c.args.table.now.entries c.args.left c.args.weight c.args.form.now c.args.count c.args.sum c.args.bytes.now)

pub read_indexed-returns : goal.read_indexed-returns
read_indexed-returns t c = joins.indexed_read c.args.table.now.entries c.args.left c.args.weight c.args.sum c.args.bytes.now c.args.index c.in_ok-form.form.now c.read_item.result c.in_ok-form.ensures c.read_item.ensures

pub read_member-returns : goal.read_member-returns
read_member-returns t c = joins.member_below c.args.table.now.entries c.args.left (c.args.left - 1) c.args.index c.args.weight c.args.sum c.args.bytes.now c.read_indexed.result (omega arith) c.read_indexed.ensures

pub read_nodes-returns-in_err-index : goal.read_nodes-returns-in_err-index
read_nodes-returns-in_err-index t c =
    let p = err_from_is_err_and c.from_residual.result c.from_residual.ensures.1 in
    rw (p.1, p.2) (joins.index_failed c.args.table.now.entries (below c.args.table.now.entries c.args.left) c.args.weight (length c.args.bytes.now) c.each.counter c.each.nodes c.each.total c.each.rest.now (omega arith) c.in_err-index.field-0.0 c.in_err-index.ensures ∙ c.each.invariant)

pub read_nodes-returns-then-index-eq0 : goal.read_nodes-returns-then-index-eq0
read_nodes-returns-then-index-eq0 t c = joins.nodes_ended c.args.table.now.entries (below c.args.table.now.entries c.args.left) c.args.weight (length c.args.bytes.now) c.each.counter c.each.nodes c.each.total c.each.rest.now (omega arith) c.in_ok-index.index c.in_ok-index.behind.now c.in_ok-index.ensures (omega arith) ∙ c.each.invariant

pub read_nodes-returns-in_err-item : goal.read_nodes-returns-in_err-item
read_nodes-returns-in_err-item t c =
    let p = err_from_is_err_and c.from_residual-in_err-item.result c.from_residual-in_err-item.ensures.1 in
    rw (p.1, p.2) (joins.member_failed c.args.table.now.entries (below c.args.table.now.entries c.args.left) c.args.weight (length c.args.bytes.now) c.each.counter c.each.nodes c.each.total c.each.rest.now (omega arith) c.in_ok-index.index c.in_ok-index.behind.now c.in_ok-index.ensures (omega arith) c.in_err-item.field-0.0 _ c.each.invariant c.in_err-item.ensures)

pub read_nodes-each-preserved : goal.read_nodes-each-preserved
read_nodes-each-preserved t c = rw c.in_ok-push.ensures.ok (joins.node_passed c.args.table.now.entries (below c.args.table.now.entries c.args.left) c.args.weight (length c.args.bytes.now) c.each.counter c.each.nodes c.each.total c.each.rest.now (omega arith) c.in_ok-index.index c.in_ok-index.behind.now c.in_ok-index.ensures (omega arith) c.in_ok-item.item.variant c.in_ok-item.item.args c.in_ok-item.after_sum c.in_ok-item.after.now c.in_ok-item.ensures ∙ c.each.invariant)

pub read_nodes-returns : goal.read_nodes-returns
read_nodes-returns t c = joins.nodes_over c.args.table.now.entries (below c.args.table.now.entries c.args.left) c.args.weight (length c.args.bytes.now) c.each.counter c.each.nodes c.each.total c.each.rest.now (omega arith) ∙ c.each.invariant
