use Rattle.std.proofs.Common.{◌≤◌, ◌+◌, ◌*◌, ℕ, length}
use Rattle.defmt_values.specs.Plain.{val_size, vals_size, elems_size, nodes_size}
use Rattle.defmt_values.specs.View.{plain, elems_of, nodes_of}
use Rattle.defmt_eager.specs.Line.{printed_limit}
use Rattle.defmt_eager.specs.Show.{shows, show_nodes, pieces_text}
use Rattle.defmt_eager.proofs.PieceBounds.{elems_joined}
use Rattle.defmt_eager.proofs.wide.+bound.Given as goal

abbrev pub decreases-value_bound : goal.decreases-value_bound
decreases-value_bound l = 4 * val_size (plain l.value.now) + 1

abbrev pub decreases-piece_bound : goal.decreases-piece_bound
decreases-piece_bound l = 4 * vals_size l.args.now + 2

abbrev pub decreases-pieces_bound : goal.decreases-pieces_bound
decreases-pieces_bound l = 4 * vals_size l.args.now + 3

abbrev pub decreases-node_bound : goal.decreases-node_bound
decreases-node_bound l = 4 * vals_size l.node.now.args + 4

abbrev pub decreases-list_bound : goal.decreases-list_bound
decreases-list_bound l = 4 * elems_size l.items.now + 1

-- what bounds the pieces that are still to come bounds all of them, with what was counted
abbrev pub invariant-pieces_bound-each : goal.invariant-pieces_bound-each
invariant-pieces_bound-each l = l.most ≤ printed_limit → (n : ℕ) → length (pieces_text l.outer l.rest (shows l.table.entries l.args)) ≤ n → length (pieces_text l.outer l.pieces (shows l.table.entries l.args)) ≤ l.most + n

abbrev pub decreases-pieces_bound-each : goal.decreases-pieces_bound-each
decreases-pieces_bound-each l = length l.rest

abbrev pub invariant-list_bound-each : goal.invariant-list_bound-each
invariant-list_bound-each l = record {
  smaller : elems_size (elems_of l.rest) ≤ elems_size l.items;
  above : l.most ≤ printed_limit → (n : ℕ) → length (elems_joined l.table.entries l.index l.hint (elems_of l.rest)) ≤ n → 2 + length (elems_joined l.table.entries l.index l.hint l.items) ≤ l.most + n;
}

abbrev pub decreases-list_bound-each : goal.decreases-list_bound-each
decreases-list_bound-each l = length l.rest

abbrev pub decreases-nodes_bound : goal.decreases-nodes_bound
decreases-nodes_bound l = 4 * nodes_size l.nodes.now + 1

abbrev pub invariant-nodes_bound-each : goal.invariant-nodes_bound-each
invariant-nodes_bound-each l = record {
  smaller : nodes_size (nodes_of l.rest) ≤ nodes_size l.nodes;
  above : l.most ≤ printed_limit → (n : ℕ) → length (show_nodes l.table.entries l.hint (nodes_of l.rest)) ≤ n → length (show_nodes l.table.entries l.hint l.nodes) ≤ l.most + n;
}

abbrev pub decreases-nodes_bound-each : goal.decreases-nodes_bound-each
decreases-nodes_bound-each l = length l.rest
