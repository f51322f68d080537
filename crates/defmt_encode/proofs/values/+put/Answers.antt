use Rattle.std.proofs.Common.{◌≡◌, arith, List, ℕ, Option, Some, None, Ok, ◌++◌, refl}
use Rattle.std.specs.Option.{unwrap_or}
use Rattle.std.proofs.lemmas.Result.{err_from_is_err_and}
use Rattle.defmt_values.specs.View.{plain}
use Rattle.byteorder.specs.Endian.{little_bytes}
use Rattle.defmt_values.specs.Plain.{elems_len}
use Rattle.defmt_values.specs.Scan.{index_or}
use Rattle.defmt_values.specs.declared.value.Node.{Node}
use Rattle.defmt_encode.specs.Carry.{bytes_val, bytes_vals, bytes_elems, bytes_nodes, variant_byte, count_bytes, index_bytes, node_slots}
use Rattle.defmt_encode.proofs.Chain.{refused_more, chain}
use Rattle.defmt_encode.proofs.Puts as puts
use Rattle.defmt_encode.proofs.values.+put.Goals as goal

pub put_args-returns-in_default-cut : goal.put_args-returns-in_default-cut
put_args-returns-in_default-cut t c =
    puts.done_all c.args.out.now c.each.out c.args.at c.each.end c.each.invariant.done _ _ c.each.invariant.wrote c.each.invariant.joins
    (puts.slots_none c.args.table.now.entries c.each.values.now c.in-Some.more.now c.in-Some.value.now c.in-Some.ensures c.each.slots_left.now c.in_default-cut.ensures)

pub put_args-returns-in_err-end : goal.put_args-returns-in_err-end
put_args-returns-in_err-end t c =
    let p = err_from_is_err_and c.from_residual.result c.from_residual.ensures.1 in
    rw p.1 (puts.passes c.args.out.now c.each.out c.put_value.new.out c.args.at c.each.end c.each.invariant.done _ _ _ _
    (puts.vals_step c.args.table.now.entries c.each.values.now c.in-Some.more.now c.in-Some.value.now c.in-Some.ensures c.each.slots_left.now c.in-Some-cut.others.now c.in-Some-cut.slot.now c.in-Some-cut.ensures)
    c.each.invariant.joins c.each.invariant.wrote c.in_err-end.ensures)

pub put_args-each-preserved : goal.put_args-each-preserved
put_args-each-preserved t c =
    let one : List ℕ = bytes_val c.args.table.now.entries c.in-Some-cut.slot.now (plain c.in-Some.value.now) in
    record {
      room = omega arith;
      smaller = puts.vals_smaller c.args.table.now.entries c.each.values.now c.in-Some.more.now c.in-Some.value.now c.in-Some.ensures _ c.each.invariant.smaller;
      done = c.each.invariant.done ++ one;
      wrote = chain c.args.out.now c.each.out c.put_value.new.out c.args.at c.each.end (Ok c.in_ok-end.end) c.each.invariant.done one c.each.invariant.wrote c.in_ok-end.ensures;
      joins = puts.joins_on c.each.invariant.done one _ _ _
          (puts.vals_step c.args.table.now.entries c.each.values.now c.in-Some.more.now c.in-Some.value.now c.in-Some.ensures c.each.slots_left.now c.in-Some-cut.others.now c.in-Some-cut.slot.now c.in-Some-cut.ensures)
          c.each.invariant.joins;
    }

pub put_args-returns : goal.put_args-returns
put_args-returns t c =
    puts.done_all c.args.out.now c.each.out c.args.at c.each.end c.each.invariant.done _ _ c.each.invariant.wrote c.each.invariant.joins
    (puts.vals_none c.args.table.now.entries c.each.slots_left.now c.each.values.now c.in_default.ensures)

pub put_items-returns-in_err-end : goal.put_items-returns-in_err-end
put_items-returns-in_err-end t c =
    let p = err_from_is_err_and c.from_residual.result c.from_residual.ensures.1 in
    rw p.1 (puts.passes c.args.out.now c.each.out c.put_item.new.out c.args.at c.each.end c.each.invariant.done _ _ _ _
    (puts.elems_step c.args.table.now.entries c.args.index c.each.rest.now c.in-Some.more.now c.in-Some.item.now c.in-Some.ensures)
    c.each.invariant.joins c.each.invariant.wrote c.in_err-end.ensures)

pub put_items-each-preserved : goal.put_items-each-preserved
put_items-each-preserved t c =
    let one : List ℕ = variant_byte c.in-Some.item.now.variant ++ bytes_vals c.args.table.now.entries (node_slots c.args.table.now.entries c.args.index c.in-Some.item.now.variant) c.in-Some.item.now.args in
    record {
      room = omega arith;
      smaller = puts.elems_smaller c.args.table.now.entries c.args.index c.each.rest.now c.in-Some.more.now c.in-Some.item.now c.in-Some.ensures _ c.each.invariant.smaller;
      done = c.each.invariant.done ++ one;
      wrote = chain c.args.out.now c.each.out c.put_item.new.out c.args.at c.each.end (Ok c.in_ok-end.end) c.each.invariant.done one c.each.invariant.wrote c.in_ok-end.ensures;
      joins = puts.joins_on c.each.invariant.done one _ _ _
          (puts.elems_step c.args.table.now.entries c.args.index c.each.rest.now c.in-Some.more.now c.in-Some.item.now c.in-Some.ensures)
          c.each.invariant.joins;
    }

pub put_items-returns : goal.put_items-returns
put_items-returns t c =
    puts.done_all c.args.out.now c.each.out c.args.at c.each.end c.each.invariant.done _ _ c.each.invariant.wrote c.each.invariant.joins
    (puts.elems_none c.args.table.now.entries c.args.index c.each.rest.now c.in_default.ensures)

index_is : (o : Option ℕ) → unwrap_or o 0 ≡ index_or o
index_is None = refl
index_is (Some i) = refl

pub put_item-returns-in_err-at : goal.put_item-returns-in_err-at
put_item-returns-in_err-at t c =
    let p = err_from_is_err_and c.from_residual.result c.from_residual.ensures.1 in
    rw p.1
    (refused_more c.args.out.now c.put_variant.new.out c.args.at (variant_byte c.args.item.now.variant) (bytes_vals c.args.table.now.entries (node_slots c.args.table.now.entries c.args.index c.args.item.now.variant) c.args.item.now.args) c.in_err-at.ensures)

pub put_item-returns : goal.put_item-returns
put_item-returns t c =
    let args = rw c.node_slots.ensures at c.put_args.ensures in
    chain c.args.out.now c.put_variant.new.out c.put_args.new.out c.args.at c.in_ok-at.at c.put_args.result (variant_byte c.args.item.now.variant) (bytes_vals c.args.table.now.entries (node_slots c.args.table.now.entries c.args.index c.args.item.now.variant) c.args.item.now.args) c.in_ok-at.ensures args

pub put_node-returns-in_err-at : goal.put_node-returns-in_err-at
put_node-returns-in_err-at t c =
    let p = err_from_is_err_and c.from_residual.result c.from_residual.ensures.1 in
    rw p.1
    (refused_more c.args.out.now c.put_head.new.out c.args.at (little_bytes 2 c.args.node.now.index ++ variant_byte c.args.node.now.variant) (bytes_vals c.args.table.now.entries (node_slots c.args.table.now.entries c.args.node.now.index c.args.node.now.variant) c.args.node.now.args) c.in_err-at.ensures)

pub put_node-returns : goal.put_node-returns
put_node-returns t c =
    let args = rw c.node_slots.ensures at c.put_args.ensures in
    chain c.args.out.now c.put_head.new.out c.put_args.new.out c.args.at c.in_ok-at.at c.put_args.result (little_bytes 2 c.args.node.now.index ++ variant_byte c.args.node.now.variant) (bytes_vals c.args.table.now.entries (node_slots c.args.table.now.entries c.args.node.now.index c.args.node.now.variant) c.args.node.now.args) c.in_ok-at.ensures args

pub put_nodes-returns-in_err-end : goal.put_nodes-returns-in_err-end
put_nodes-returns-in_err-end t c =
    let p = err_from_is_err_and c.from_residual.result c.from_residual.ensures.1 in
    rw p.1 (puts.passes c.args.out.now c.each.out c.put_node.new.out c.args.at c.each.end c.each.invariant.done _ _ _ _
    (puts.nodes_step c.args.table.now.entries c.each.rest.now c.in-Some.more.now c.in-Some.node.now c.in-Some.ensures)
    c.each.invariant.joins c.each.invariant.wrote c.in_err-end.ensures)

pub put_nodes-each-preserved : goal.put_nodes-each-preserved
put_nodes-each-preserved t c =
    let x : Node = c.in-Some.node.now in
    let one : List ℕ = (little_bytes 2 x.index ++ variant_byte x.variant) ++ bytes_vals c.args.table.now.entries (node_slots c.args.table.now.entries x.index x.variant) x.args in
    record {
      room = omega arith;
      smaller = puts.nodes_smaller c.args.table.now.entries c.each.rest.now c.in-Some.more.now c.in-Some.node.now c.in-Some.ensures _ c.each.invariant.smaller;
      done = c.each.invariant.done ++ one;
      wrote = chain c.args.out.now c.each.out c.put_node.new.out c.args.at c.each.end (Ok c.in_ok-end.end) c.each.invariant.done one c.each.invariant.wrote c.in_ok-end.ensures;
      joins = puts.joins_on c.each.invariant.done one _ _ _
          (puts.nodes_step c.args.table.now.entries c.each.rest.now c.in-Some.more.now c.in-Some.node.now c.in-Some.ensures)
          c.each.invariant.joins;
    }

pub put_nodes-returns : goal.put_nodes-returns
put_nodes-returns t c =
    puts.done_all c.args.out.now c.each.out c.args.at c.each.end c.each.invariant.done _ _ c.each.invariant.wrote c.each.invariant.joins
    (puts.nodes_none c.args.table.now.entries c.each.rest.now c.in_default.ensures)

pub put_sequence-returns-in_err-at : goal.put_sequence-returns-in_err-at
put_sequence-returns-in_err-at t c =
    let p = err_from_is_err_and c.from_residual.result c.from_residual.ensures.1 in
    rw p.1 (refused_more c.args.out.now c.put_nodes.new.out c.args.at (bytes_nodes c.args.table.now.entries c.args.nodes.now) (little_bytes 2 0) c.in_err-at.ensures)

pub put_sequence-returns : goal.put_sequence-returns
put_sequence-returns t c = chain c.args.out.now c.put_nodes.new.out c.put_number.new.out c.args.at c.in_ok-at.at c.put_number.result (bytes_nodes c.args.table.now.entries c.args.nodes.now) (little_bytes 2 0) c.in_ok-at.ensures c.put_number.ensures.puts

pub put_seq-returns-in_err-at : goal.put_seq-returns-in_err-at
put_seq-returns-in_err-at t c =
    let p = err_from_is_err_and c.from_residual.result c.from_residual.ensures.1 in
    let head = rw c.len.ensures at c.in_err-at.ensures in
    rw p.1
    (refused_more c.args.out.now c.put_list_head.new.out c.args.at (count_bytes c.args.slot (elems_len c.args.seq.now.items) ++ index_bytes c.args.seq.now.index) (bytes_elems c.args.table.now.entries (index_or c.args.seq.now.index) c.args.seq.now.items) head)

pub put_seq-returns : goal.put_seq-returns
put_seq-returns t c =
    let head = rw c.len.ensures at c.in_ok-at.ensures in
    let items = rw (c.unwrap_or.ensures, index_is c.args.seq.now.index) at c.put_items.ensures in
    chain c.args.out.now c.put_list_head.new.out c.put_items.new.out c.args.at c.in_ok-at.at c.put_items.result (count_bytes c.args.slot (elems_len c.args.seq.now.items) ++ index_bytes c.args.seq.now.index) (bytes_elems c.args.table.now.entries (index_or c.args.seq.now.index) c.args.seq.now.items) head items
