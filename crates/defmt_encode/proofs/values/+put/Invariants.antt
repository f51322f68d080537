use Rattle.std.proofs.Common.{◌≡◌, ◌≤◌, ◌+◌, ◌*◌, ◌++◌, List, ℕ, length, map}
use Rattle.defmt_values.specs.Plain.{val_size, vals_size, elems_size, nodes_size}
use Rattle.defmt_values.specs.View.{plain, vals_of, elems_of, nodes_of}
use Rattle.defmt_encode.specs.Carry.{bytes_vals, bytes_elems, bytes_nodes}
use Rattle.defmt_encode.specs.Out.{Wrote}
use Rattle.defmt_encode.proofs.values.+put.Given as goal

abbrev pub decreases-put_value : goal.decreases-put_value
decreases-put_value l = 4 * val_size (plain l.value.now) + 1

abbrev pub decreases-put_args : goal.decreases-put_args
decreases-put_args l = 4 * vals_size l.args.now + 2

abbrev pub decreases-put_items : goal.decreases-put_items
decreases-put_items l = 4 * elems_size l.items.now + 1

abbrev pub decreases-put_seq : goal.decreases-put_seq
decreases-put_seq l = 4 * elems_size l.seq.now.items + 2

abbrev pub decreases-put_item : goal.decreases-put_item
decreases-put_item l = 4 * vals_size l.item.now.args + 3

abbrev pub decreases-put_node : goal.decreases-put_node
decreases-put_node l = 4 * vals_size l.node.now.args + 3

abbrev pub decreases-put_nodes : goal.decreases-put_nodes
decreases-put_nodes l = 4 * nodes_size l.nodes.now + 1

abbrev pub invariant-put_args-each : goal.invariant-put_args-each
invariant-put_args-each l = record {
  room : 2000 ≤ length l.out;
  smaller : vals_size (vals_of (map plain l.values)) ≤ vals_size l.args;
  done : List ℕ;
  wrote : Wrote l.initial.out l.out l.at l.end done;
  joins : done ++ bytes_vals l.table.entries l.slots_left (vals_of (map plain l.values)) ≡ bytes_vals l.table.entries l.slots l.args;
}

abbrev pub decreases-put_args-each : goal.decreases-put_args-each
decreases-put_args-each l = length l.values

abbrev pub invariant-put_items-each : goal.invariant-put_items-each
invariant-put_items-each l = record {
  room : 2000 ≤ length l.out;
  smaller : elems_size (elems_of l.rest) ≤ elems_size l.items;
  done : List ℕ;
  wrote : Wrote l.initial.out l.out l.at l.end done;
  joins : done ++ bytes_elems l.table.entries l.index (elems_of l.rest) ≡ bytes_elems l.table.entries l.index l.items;
}

abbrev pub decreases-put_items-each : goal.decreases-put_items-each
decreases-put_items-each l = length l.rest

abbrev pub invariant-put_nodes-each : goal.invariant-put_nodes-each
invariant-put_nodes-each l = record {
  room : 2000 ≤ length l.out;
  smaller : nodes_size (nodes_of l.rest) ≤ nodes_size l.nodes;
  done : List ℕ;
  wrote : Wrote l.initial.out l.out l.at l.end done;
  joins : done ++ bytes_nodes l.table.entries (nodes_of l.rest) ≡ bytes_nodes l.table.entries l.nodes;
}

abbrev pub decreases-put_nodes-each : goal.decreases-put_nodes-each
decreases-put_nodes-each l = length l.rest

abbrev pub decreases-put_sequence : goal.decreases-put_sequence
decreases-put_sequence l = 4 * nodes_size l.nodes.now + 2
