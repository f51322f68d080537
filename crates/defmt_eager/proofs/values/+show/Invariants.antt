use Rattle.std.proofs.Common.{◌≤◌, ◌+◌, ◌*◌, length}
use Rattle.defmt_hints.specs.Printed.{parted}
use Rattle.defmt_values.specs.Plain.{val_size, vals_size, elems_size, nodes_size}
use Rattle.defmt_values.specs.View.{plain, elems_of, nodes_of}
use Rattle.defmt_eager.specs.Show.{shows, show_elems, show_nodes, pieces_text}
use Rattle.defmt_eager.proofs.Appends.{joined}
use Rattle.defmt_eager.proofs.Parts.{Pending}
use Rattle.defmt_eager.proofs.values.+show.Given as goal

abbrev pub decreases-put_value : goal.decreases-put_value
decreases-put_value l = 6 * val_size (plain l.value.now) + 1

abbrev pub decreases-put_param : goal.decreases-put_param
decreases-put_param l = 6 * vals_size l.args.now + 2

abbrev pub decreases-put_piece : goal.decreases-put_piece
decreases-put_piece l = 6 * vals_size l.args.now + 3

abbrev pub decreases-put_pieces : goal.decreases-put_pieces
decreases-put_pieces l = 6 * vals_size l.args.now + 4

abbrev pub decreases-put_node : goal.decreases-put_node
decreases-put_node l = 6 * vals_size l.node.now.args + 5

abbrev pub decreases-put_item : goal.decreases-put_item
decreases-put_item l = 6 * vals_size l.item.now.args + 5

abbrev pub decreases-put_items : goal.decreases-put_items
decreases-put_items l = 6 * elems_size l.items.now + 1

abbrev pub decreases-put_list : goal.decreases-put_list
decreases-put_list l = 6 * elems_size l.items.now + 2

abbrev pub invariant-put_pieces-each : goal.invariant-put_pieces-each
invariant-put_pieces-each l = Pending l.fn.out l.at (pieces_text l.outer l.pieces (shows l.table.entries l.args)) l.out l.place (pieces_text l.outer l.rest (shows l.table.entries l.args))

abbrev pub decreases-put_pieces-each : goal.decreases-put_pieces-each
decreases-put_pieces-each l = length l.rest

abbrev pub invariant-put_items-each : goal.invariant-put_items-each
invariant-put_items-each l = record {
  smaller : elems_size (elems_of l.rest) ≤ elems_size l.items;
  pending : Pending l.fn.out l.at (parted (show_elems l.table.entries l.index l.hint l.items)) l.out l.place (joined l.first (show_elems l.table.entries l.index l.hint (elems_of l.rest)));
}

abbrev pub decreases-put_items-each : goal.decreases-put_items-each
decreases-put_items-each l = length l.rest

abbrev pub decreases-put_nodes : goal.decreases-put_nodes
decreases-put_nodes l = 6 * nodes_size l.nodes.now + 1

abbrev pub invariant-put_nodes-each : goal.invariant-put_nodes-each
invariant-put_nodes-each l = record {
  smaller : nodes_size (nodes_of l.rest) ≤ nodes_size l.nodes;
  pending : Pending l.fn.out l.at (show_nodes l.table.entries l.hint l.nodes) l.out l.place (show_nodes l.table.entries l.hint (nodes_of l.rest));
}

abbrev pub decreases-put_nodes-each : goal.decreases-put_nodes-each
decreases-put_nodes-each l = length l.rest
