use Rattle.std.proofs.Common.{◌≡◌, ◌≤◌, ◌+◌, ◌*◌, ◌-◌, length, All}
use Rattle.defmt_grammar.specs.Slots.{IsSound}
use Rattle.defmt_values.specs.Entries.{places_of, places_from}
use Rattle.defmt_encode.specs.Read.{each_at, elems_at, nodes_at, value_at, below}
use Rattle.defmt_encode.proofs.Joins.{before_vals, before_elems, before_nodes}
use Rattle.defmt_encode.proofs.read.+read.Given as goal

abbrev pub decreases-read_value : goal.decreases-read_value
decreases-read_value l = 10 * l.left + 4

abbrev pub decreases-read_some : goal.decreases-read_some
decreases-read_some l = 10 * l.left + 3

abbrev pub decreases-read_into : goal.decreases-read_into
decreases-read_into l = 10 * l.left + 5

abbrev pub decreases-read_item : goal.decreases-read_item
decreases-read_item l = 10 * l.left + 7

abbrev pub decreases-read_node : goal.decreases-read_node
decreases-read_node l = 10 * l.left + 9

abbrev pub decreases-read_indexed : goal.decreases-read_indexed
decreases-read_indexed l = 10 * l.left + 8

abbrev pub decreases-read_nodes : goal.decreases-read_nodes
decreases-read_nodes l = 10 * l.left + 2

abbrev pub decreases-read_member : goal.decreases-read_member
decreases-read_member l = 10 * l.left + 1

abbrev pub decreases-read_items : goal.decreases-read_items
decreases-read_items l = 10 * l.left + 8

abbrev pub decreases-read_list : goal.decreases-read_list
decreases-read_list l = 10 * l.left + 9

abbrev pub invariant-read_into-each : goal.invariant-read_into-each
invariant-read_into-each l = record {
  few : l.position + length l.slots ≤ 16;
  sound : All IsSound l.slots;
  same : before_vals l.args (each_at (value_at l.table.entries l.left) (places_from l.pieces l.position l.slots) l.weight l.total l.rest) ≡ each_at (value_at l.table.entries l.left) (places_of l.pieces) l.weight l.sum l.bytes;
}

abbrev pub decreases-read_into-each : goal.decreases-read_into-each
decreases-read_into-each l = length l.slots

abbrev pub invariant-read_items-each : goal.invariant-read_items-each
invariant-read_items-each l = before_elems l.items (elems_at (value_at l.table.entries l.left) l.form (l.count - l.counter) l.weight l.total l.rest) ≡ elems_at (value_at l.table.entries l.left) l.form l.count l.weight l.sum l.bytes

abbrev pub invariant-read_nodes-each : goal.invariant-read_nodes-each
invariant-read_nodes-each l = before_nodes l.nodes (nodes_at l.table.entries (below l.table.entries l.left) (length l.bytes - l.counter) l.weight l.total l.rest) ≡ nodes_at l.table.entries (below l.table.entries l.left) (length l.bytes) l.weight l.sum l.bytes
