use Rattle.std.proofs.Common.{◌≡◌, ◌≤◌, ◌+◌, arith, ap, false, length}
use Rattle.defmt_values.specs.View.{plain}
use Rattle.defmt_eager.specs.Line.{printed_limit}
use Rattle.defmt_eager.specs.Show.{acting, shows, show_val, show_elems}
use Rattle.defmt_eager.proofs.Appends.{pieces_none, elems_none, elems_smaller, nodes_none, nodes_smaller, size_get}
use Rattle.defmt_eager.proofs.PieceBounds.{none_taken, some_bound, piece_more, elem_more, node_more, list_few, index_is}
use Rattle.defmt_eager.proofs.wide.+bound.Goals as goal

pub value_bound-returns-in_default : goal.value_bound-returns-in_default
value_bound-returns-in_default t c = λ kind few.
    c.leaf_bound.ensures c.args.table.now.entries few kind (acting c.args.outer c.args.own) (rw (c.most_bytes-most.ensures.value, c.acting-in_default.ensures) at c.most_bytes-most.ensures.few)

pub value_bound-returns-in-Bytes : goal.value_bound-returns-in-Bytes
unfolding show_val
value_bound-returns-in-Bytes t c = λ kind few. rw c.in-Bytes.is ((rw (c.as_slice.ensures, c.acting.ensures) at c.bytes_bound.ensures) few)

pub value_bound-returns-in-Istr : goal.value_bound-returns-in-Istr
unfolding show_val
value_bound-returns-in-Istr t c = λ kind few. rw c.in-Istr.is (c.interned_bound.ensures (acting c.args.outer c.args.own) few)

pub value_bound-returns-in-Format : goal.value_bound-returns-in-Format
unfolding show_val
value_bound-returns-in-Format t c = λ kind few. rw c.in-Format.is ((rw c.acting-in-Format.ensures at c.node_bound.ensures) few)

pub value_bound-returns-in-Seq : goal.value_bound-returns-in-Seq
unfolding show_val
value_bound-returns-in-Seq t c = λ kind few. rw c.in-Seq.is ((rw (c.acting-in-Seq.ensures, c.unwrap_or-index.ensures, index_is c.in-Seq.seq.index) at c.list_bound.ensures) few)

pub value_bound-returns-in-Sequence : goal.value_bound-returns-in-Sequence
unfolding show_val
value_bound-returns-in-Sequence t c = λ kind few. rw c.in-Sequence.is ((rw c.acting-in-Sequence.ensures at c.nodes_bound.ensures) few)

pub piece_bound-returns-in-None : goal.piece_bound-returns-in-None
piece_bound-returns-in-None t c = λ few.
    rw c.in-Param.is (none_taken c.args.table.now.entries c.args.outer c.args.args.now c.in-Param.param.position c.in-Param.param.kind c.in-Param.param.hint c.in-None.ensures)

pub piece_bound-value_bound-requires : goal.piece_bound-value_bound-requires
piece_bound-value_bound-requires t c = omega (arith, c.decreases, size_get c.args.args.now c.in-Param.param.position (plain c.in-Some.value.now) c.in-Some.ensures)

pub piece_bound-returns-in-Some : goal.piece_bound-returns-in-Some
piece_bound-returns-in-Some t c = λ few.
    rw c.in-Param.is (some_bound c.args.table.now.entries c.args.outer c.args.args.now c.in-Param.param.position c.in-Param.param.kind c.in-Param.param.hint (plain c.in-Some.value.now) c.value_bound.result c.in-Some.ensures
    (c.value_bound.ensures c.in-Param.param.kind few))

pub pieces_bound-each-preserved : goal.pieces_bound-each-preserved
pieces_bound-each-preserved t c = λ few.
    let sum : c.saturating_add-most.result ≡ c.each.most + c.piece_bound.result + 0 = omega (arith, few) in
    let low : c.each.most ≤ printed_limit = omega (arith, few) in
    let one : c.piece_bound.result ≤ printed_limit = omega (arith, few) in
    piece_more c.args.outer (shows c.args.table.now.entries c.args.args.now) c.args.pieces.now c.each.rest.now c.in-Some.more.now c.in-Some.piece.now c.each.most c.piece_bound.result c.saturating_add-most.result c.in-Some.ensures (c.piece_bound.ensures one) sum (c.each.invariant low)

pub pieces_bound-returns : goal.pieces_bound-returns
pieces_bound-returns t c = λ few.
    omega (arith, c.each.invariant few 0 (omega (arith, ap length (pieces_none c.args.outer c.each.rest.now (shows c.args.table.now.entries c.args.args.now) c.in_default.ensures))))

pub node_bound-returns : goal.node_bound-returns
node_bound-returns t c = λ few. (rw c.node_pieces-pieces.ensures at c.pieces_bound.ensures) few

pub list_bound-each-preserved : goal.list_bound-each-preserved
list_bound-each-preserved t c = record {
  smaller = elems_smaller c.each.rest.now c.in-Some.more.now c.in-Some.item.now _ c.in-Some.ensures c.each.invariant.smaller;
  above = λ few.
      let sum : c.saturating_add-most.result ≡ c.each.most + c.pieces_bound.result + 2 = omega (arith, few) in
      let low : c.each.most ≤ printed_limit = omega (arith, few) in
      let one : c.pieces_bound.result ≤ printed_limit = omega (arith, few) in
      elem_more c.args.table.now.entries c.args.index c.args.hint c.args.items.now c.each.rest.now c.in-Some.more.now c.in-Some.item.now c.each.most c.pieces_bound.result c.saturating_add-most.result c.in-Some.ensures ((rw c.node_pieces-pieces.ensures at c.pieces_bound.ensures) one) sum (c.each.invariant.above low);
}

pub list_bound-returns : goal.list_bound-returns
list_bound-returns t c = λ few.
    list_few (show_elems c.args.table.now.entries c.args.index c.args.hint c.args.items.now) c.each.most
    (c.each.invariant.above few 0 (omega (arith, ap length (elems_none c.args.table.now.entries c.args.index c.args.hint false c.each.rest.now c.in_default.ensures))))

pub nodes_bound-each-preserved : goal.nodes_bound-each-preserved
nodes_bound-each-preserved t c = record {
  smaller = nodes_smaller c.each.rest.now c.in-Some.more.now c.in-Some.node.now _ c.in-Some.ensures c.each.invariant.smaller;
  above = λ few.
      let sum : c.saturating_add-most.result ≡ c.each.most + c.node_bound.result + 0 = omega (arith, few) in
      let low : c.each.most ≤ printed_limit = omega (arith, few) in
      let one : c.node_bound.result ≤ printed_limit = omega (arith, few) in
      node_more c.args.table.now.entries c.args.hint c.args.nodes.now c.each.rest.now c.in-Some.more.now c.in-Some.node.now c.each.most c.node_bound.result c.saturating_add-most.result c.in-Some.ensures (c.node_bound.ensures one) sum (c.each.invariant.above low);
}

pub nodes_bound-returns : goal.nodes_bound-returns
nodes_bound-returns t c = λ few.
    omega (arith, c.each.invariant.above few 0 (omega (arith, ap length (nodes_none c.args.table.now.entries c.args.hint c.each.rest.now c.in_default.ensures))))
