use Rattle.std.proofs.Common.{◌≡◌, ◌≤◌, ◌*◌, ◌+◌, ◌++◌, map, true, length}
use Rattle.defmt_spelling.specs.Printed.{vals_text, elems_text, nodes_text}
use Rattle.defmt_values.specs.Plain.{val_size, vals_size, elems_size, nodes_size}
use Rattle.defmt_values.specs.View.{plain, vals_of, elems_of, nodes_of}
use Rattle.defmt_spelling.proofs.printing.+print.Given as goal

abbrev pub decreases-push_value : goal.decreases-push_value
decreases-push_value l = 4 * val_size (plain l.value.now)

abbrev pub decreases-push_values : goal.decreases-push_values
decreases-push_values l = 4 * vals_size l.args.now + 1

abbrev pub decreases-push_inside : goal.decreases-push_inside
decreases-push_inside l = 4 * vals_size l.args.now + 2

abbrev pub decreases-push_node : goal.decreases-push_node
decreases-push_node l = 4 * vals_size l.node.now.args + 3

abbrev pub decreases-push_item : goal.decreases-push_item
decreases-push_item l = 4 * vals_size l.item.now.args + 3

abbrev pub decreases-push_items : goal.decreases-push_items
decreases-push_items l = 4 * elems_size l.items.now + 1

abbrev pub decreases-push_list : goal.decreases-push_list
decreases-push_list l = 4 * elems_size l.seq.now.items + 2

abbrev pub invariant-push_values-each : goal.invariant-push_values-each
invariant-push_values-each l = record {
  smaller : vals_size (vals_of (map plain l.rest)) ≤ vals_size l.args;
  same : l.out ++ vals_text l.names l.table.entries l.first l.there (vals_of (map plain l.rest)) ≡ l.initial.out ++ vals_text l.names l.table.entries true l.slots l.args;
}

abbrev pub decreases-push_values-each : goal.decreases-push_values-each
decreases-push_values-each l = length l.rest

abbrev pub invariant-push_items-each : goal.invariant-push_items-each
invariant-push_items-each l = record {
  smaller : elems_size (elems_of l.rest) ≤ elems_size l.items;
  same : l.out ++ elems_text l.names l.table.entries l.first l.index (elems_of l.rest) ≡ l.initial.out ++ elems_text l.names l.table.entries true l.index l.items;
}

abbrev pub decreases-push_items-each : goal.decreases-push_items-each
decreases-push_items-each l = length l.rest

abbrev pub decreases-push_sequence : goal.decreases-push_sequence
decreases-push_sequence l = 4 * nodes_size l.nodes.now + 2

abbrev pub decreases-push_nodes : goal.decreases-push_nodes
decreases-push_nodes l = 4 * nodes_size l.nodes.now + 1

abbrev pub invariant-push_nodes-each : goal.invariant-push_nodes-each
invariant-push_nodes-each l = record {
  smaller : nodes_size (nodes_of l.rest) ≤ nodes_size l.nodes;
  same : l.out ++ nodes_text l.names l.table.entries l.first (nodes_of l.rest) ≡ l.initial.out ++ nodes_text l.names l.table.entries true l.nodes;
}

abbrev pub decreases-push_nodes-each : goal.decreases-push_nodes-each
decreases-push_nodes-each l = length l.rest
