use Rattle.std.proofs.Common.{◌++◌, true}
use Rattle.defmt_spelling.specs.Printed.{vals_text, elems_text, nodes_text}
use Rattle.defmt_spelling.proofs.PrintLaws.{vals_more, vals_end, elems_more, elems_end, nodes_more, nodes_end, others_smaller, items_smaller, nodes_smaller}
use Rattle.defmt_values.specs.Plain.{vals_size, elems_size, nodes_size}
use Rattle.defmt_spelling.proofs.printing.+print.Goals as goal

pub push_values-each-preserved : goal.push_values-each-preserved
push_values-each-preserved t c = record {
  smaller = others_smaller c.each.rest.now c.in-Some.more.now c.in-Some.value.now (vals_size c.args.args.now) c.in-Some.ensures c.each.invariant.smaller;
  same = vals_more c.args.names.now c.args.table.now.entries c.each.rest.now c.in-Some.more.now c.in-Some.value.now c.each.first c.each.there.now c.next_slot-slot.result.1.now c.next_slot-slot.result.0 c.each.out c.push_gap.new.out c.push_value.new.out
      (c.args.out.now ++ vals_text c.args.names.now c.args.table.now.entries true c.args.slots.now c.args.args.now) c.in-Some.ensures c.next_slot-slot.ensures.first c.next_slot-slot.ensures.more c.in_ok-push_gap.ensures c.in_ok-push_value.ensures c.each.invariant.same;
}

pub push_values-returns : goal.push_values-returns
push_values-returns t c = vals_end c.args.names.now c.args.table.now.entries c.each.rest.now c.each.first c.each.there.now c.each.out (c.args.out.now ++ vals_text c.args.names.now c.args.table.now.entries true c.args.slots.now c.args.args.now) c.in_default.ensures c.each.invariant.same

pub push_items-each-preserved : goal.push_items-each-preserved
push_items-each-preserved t c = record {
  smaller = items_smaller c.each.rest.now c.in-Some.more.now c.in-Some.item.now (elems_size c.args.items.now) c.in-Some.ensures c.each.invariant.smaller;
  same = elems_more c.args.names.now c.args.table.now.entries c.args.index c.each.rest.now c.in-Some.more.now c.in-Some.item.now c.each.first c.each.out c.push_gap.new.out c.push_item.new.out (c.args.out.now ++ elems_text c.args.names.now c.args.table.now.entries true c.args.index c.args.items.now) c.in-Some.ensures c.in_ok-push_gap.ensures c.in_ok-push_item.ensures c.each.invariant.same;
}

pub push_items-returns : goal.push_items-returns
push_items-returns t c = elems_end c.args.names.now c.args.table.now.entries c.args.index c.each.rest.now c.each.first c.each.out (c.args.out.now ++ elems_text c.args.names.now c.args.table.now.entries true c.args.index c.args.items.now) c.in_default.ensures c.each.invariant.same

pub push_nodes-each-preserved : goal.push_nodes-each-preserved
push_nodes-each-preserved t c = record {
  smaller = nodes_smaller c.each.rest.now c.in-Some.more.now c.in-Some.node.now (nodes_size c.args.nodes.now) c.in-Some.ensures c.each.invariant.smaller;
  same = nodes_more c.args.names.now c.args.table.now.entries c.each.rest.now c.in-Some.more.now c.in-Some.node.now c.each.first c.each.out c.push_gap.new.out c.push_node.new.out (c.args.out.now ++ nodes_text c.args.names.now c.args.table.now.entries true c.args.nodes.now) c.in-Some.ensures c.in_ok-push_gap.ensures c.in_ok-push_node.ensures c.each.invariant.same;
}

pub push_nodes-returns : goal.push_nodes-returns
push_nodes-returns t c = nodes_end c.args.names.now c.args.table.now.entries c.each.rest.now c.each.first c.each.out (c.args.out.now ++ nodes_text c.args.names.now c.args.table.now.entries true c.args.nodes.now) c.in_default.ensures c.each.invariant.same
