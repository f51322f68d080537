use Rattle.std.proofs.Common.{◌≤◌, ◌+◌, ◌*◌, length, map}
use Rattle.defmt_values.specs.Plain.{val_size, vals_size, elems_size, nodes_size}
use Rattle.defmt_values.specs.View.{plain, vals_of, elems_of, nodes_of}
use Rattle.defmt_encode.proofs.Most.{Above, AboveEach, AboveNodes}
use Rattle.defmt_encode.proofs.bounds.+most.Given as goal

abbrev pub decreases-most_bytes : goal.decreases-most_bytes
decreases-most_bytes l = 3 * val_size (plain l.value.now)

abbrev pub decreases-most_of : goal.decreases-most_of
decreases-most_of l = 3 * vals_size l.args.now + 1

abbrev pub decreases-most_inside : goal.decreases-most_inside
decreases-most_inside l = 3 * vals_size l.args.now + 2

abbrev pub decreases-most_of_each : goal.decreases-most_of_each
decreases-most_of_each l = 3 * elems_size l.items.now + 1

abbrev pub decreases-most_of_nodes : goal.decreases-most_of_nodes
decreases-most_of_nodes l = 3 * nodes_size l.nodes.now + 1

abbrev pub invariant-most_of-each : goal.invariant-most_of-each
invariant-most_of-each l = record {
  smaller : vals_size (vals_of (map plain l.values)) ≤ vals_size l.args;
  above : l.most ≤ 2000 → Above l.args (vals_of (map plain l.values)) l.most;
}

abbrev pub decreases-most_of-each : goal.decreases-most_of-each
decreases-most_of-each l = length l.values

abbrev pub invariant-most_of_each-each : goal.invariant-most_of_each-each
invariant-most_of_each-each l = record {
  smaller : elems_size (elems_of l.rest) ≤ elems_size l.items;
  above : l.most ≤ 2000 → AboveEach l.items (elems_of l.rest) l.most;
}

abbrev pub decreases-most_of_each-each : goal.decreases-most_of_each-each
decreases-most_of_each-each l = length l.rest

abbrev pub invariant-most_of_nodes-each : goal.invariant-most_of_nodes-each
invariant-most_of_nodes-each l = record {
  smaller : nodes_size (nodes_of l.rest) ≤ nodes_size l.nodes;
  above : l.most ≤ 2000 → AboveNodes l.nodes (nodes_of l.rest) l.most;
}

abbrev pub decreases-most_of_nodes-each : goal.decreases-most_of_nodes-each
decreases-most_of_nodes-each l = length l.rest
