use Rattle.std.proofs.Common.{◌≡◌, ◌*◌, ◌+◌, ◌≤◌, length, map}
use Rattle.defmt_values.specs.Entries.{places_of, places_from}
use Rattle.defmt_values.specs.Scan.{scan_vals, scan_elems, scan_nodes}
use Rattle.defmt_values.specs.View.{plain, vals_of, elems_of, nodes_of}
use Rattle.defmt_values.proofs.fitting.+check.Given as goal

abbrev pub decreases-check_value : goal.decreases-check_value
decreases-check_value l = 3 * l.left + 1

abbrev pub decreases-check_args : goal.decreases-check_args
decreases-check_args l = 3 * l.left + 2

abbrev pub decreases-check_items : goal.decreases-check_items
decreases-check_items l = 3 * l.left + 3

abbrev pub decreases-check_nodes : goal.decreases-check_nodes
decreases-check_nodes l = 3 * l.left

abbrev pub invariant-check_args-each : goal.invariant-check_args-each
invariant-check_args-each l = record {
  small : l.total ≤ 8192;
  few : l.position + length l.slots ≤ 16;
  same : scan_vals l.table.entries l.left (places_from l.pieces l.position l.slots) l.weight l.total (vals_of (map plain l.values)) ≡ scan_vals l.table.entries l.left (places_of l.pieces) l.weight l.sum l.args;
}

abbrev pub decreases-check_args-each : goal.decreases-check_args-each
decreases-check_args-each l = length l.values

abbrev pub invariant-check_items-each : goal.invariant-check_items-each
invariant-check_items-each l = record {
  small : l.total ≤ 8192;
  same : scan_elems l.table.entries l.left l.form l.weight l.total (elems_of l.rest) ≡ scan_elems l.table.entries l.left l.form l.weight l.sum l.items;
}

abbrev pub decreases-check_items-each : goal.decreases-check_items-each
decreases-check_items-each l = length l.rest

abbrev pub invariant-check_nodes-each : goal.invariant-check_nodes-each
invariant-check_nodes-each l = record {
  small : l.total ≤ 8192;
  same : scan_nodes l.table.entries l.left l.weight l.total (nodes_of l.rest) ≡ scan_nodes l.table.entries l.left l.weight l.sum l.nodes;
}

abbrev pub decreases-check_nodes-each : goal.decreases-check_nodes-each
decreases-check_nodes-each l = length l.rest
