use Rattle.std.proofs.Common.{None, arith, rules, false, List, ℕ, ◌++◌, codes, subst, ◌∙◌}
use Rattle.std.proofs.lemmas.Grind.{common_steps}
use Rattle.defmt_eager.proofs.Appends as appends
use Rattle.defmt_eager.proofs.Parts as parts
use Rattle.defmt_eager.proofs.PieceBounds.{index_is}
use Rattle.defmt_eager.proofs.Utf8.{utf8_bits, utf8_close, utf8_comma, utf8_float_text, utf8_open}
use Rattle.defmt_eager.specs.Answers.{Placed, Puts, comma}
use Rattle.defmt_eager.specs.Show.{node_pieces, piece_text, pieces_text, show_elems, show_nodes, show_val, shows, text_hint}
use Rattle.defmt_hints.proofs.Chains.{full_front}
use Rattle.defmt_hints.proofs.Utf8Laws.{utf8_bool, utf8_bytes, utf8_str, utf8_uint}
use Rattle.defmt_hints.specs.Printed.{list_text, parted}
use Rattle.defmt_values.specs.View.{elems_of, nodes_of, plain}
use Rattle.defmt_eager.proofs.values.+show.Goals as goal

pub put_value-returns-in-Uint : goal.put_value-returns-in-Uint
unfolding show_val
put_value-returns-in-Uint t c = rw c.in-Uint.is (parts.puts_of c.put_wide_uint.result _ _ _ _ (utf8_uint _ c.args.hint) c.put_wide_uint.ensures)

pub put_value-returns-in-Int : goal.put_value-returns-in-Int
unfolding show_val
put_value-returns-in-Int t c = first_of (search rules, grind (arith, common_steps))

pub put_value-returns-in-Bool : goal.put_value-returns-in-Bool
unfolding show_val
put_value-returns-in-Bool t c = rw c.in-Bool.is (parts.puts_of c.put_bool.result _ _ _ _ (utf8_bool _) c.put_bool.ensures)

pub put_value-returns-in-Char : goal.put_value-returns-in-Char
unfolding show_val
put_value-returns-in-Char t c = rw c.in-Char.is c.put_character.ensures

pub put_value-returns-in-Bits : goal.put_value-returns-in-Bits
unfolding show_val
put_value-returns-in-Bits t c = rw c.in-Bits.is (parts.puts_of c.put_bits.result _ _ _ _ (utf8_bits c.args.kind _ c.args.hint) c.put_bits.ensures)

pub put_value-returns-in-Str : goal.put_value-returns-in-Str
unfolding show_val
put_value-returns-in-Str t c = rw c.in-Str.is (parts.puts_of c.put_str.result _ _ _ _ (utf8_str _ (text_hint c.args.kind c.args.hint) c.as_str.ensures.utf8) (rw (c.as_str.ensures.text, c.text_hint.ensures) at c.put_str.ensures))

pub put_value-returns-in-Istr : goal.put_value-returns-in-Istr
unfolding show_val
put_value-returns-in-Istr t c = rw c.in-Istr.is (parts.puts_of c.put_str-in-Istr.result _ _ _ _ (utf8_str _ c.args.hint (rw c.interned_text.ensures.text at c.interned_text.ensures.utf8)) (rw c.interned_text.ensures.text at c.put_str-in-Istr.ensures))

pub put_value-returns-in-Bytes : goal.put_value-returns-in-Bytes
unfolding show_val
put_value-returns-in-Bytes t c = rw c.in-Bytes.is (parts.puts_of c.put_bytes.result _ _ _ _ (utf8_bytes _ c.args.hint) (rw c.as_slice.ensures at c.put_bytes.ensures))

pub put_value-returns-in-Format : goal.put_value-returns-in-Format
unfolding show_val
put_value-returns-in-Format t c = rw c.in-Format.is c.put_node.ensures

pub put_value-returns-in-Seq : goal.put_value-returns-in-Seq
unfolding show_val
put_value-returns-in-Seq t c =
    rw c.in-Seq.is (subst (λ (i : ℕ). Puts c.put_list.result c.args.out.now c.args.at c.put_list.new.out (list_text (show_elems c.args.table.now.entries i c.args.hint c.in-Seq.seq.items)))
    (c.unwrap_or.ensures ∙ index_is c.in-Seq.seq.index) c.put_list.ensures)

pub put_value-returns-in-Float : goal.put_value-returns-in-Float
unfolding show_val
put_value-returns-in-Float t c = rw c.in-Float.is (parts.puts_of c.put_float_of_kind.result _ _ _ _ (utf8_float_text c.args.kind _) c.put_float_of_kind.ensures)

pub put_value-returns-in-Sequence : goal.put_value-returns-in-Sequence
unfolding show_val
put_value-returns-in-Sequence t c = rw c.in-Sequence.is c.put_nodes.ensures

pub put_node-returns : goal.put_node-returns
put_node-returns t c = rw c.node_pieces-pieces.ensures at c.put_pieces.ensures

pub put_param-returns-in-None : goal.put_param-returns-in-None
put_param-returns-in-None t c =
    subst (λ (x : List ℕ). Placed c.args.out.now c.args.at c.args.out.now c.args.at x)
    (appends.param_none c.args.table.now.entries c.args.outer c.args.args.now c.args.param.position c.args.param.kind c.args.param.hint c.in-None.ensures)
    (parts.placed_none c.args.out.now c.args.at c.requires)

pub put_param-returns-in-Some : goal.put_param-returns-in-Some
put_param-returns-in-Some t c = subst (λ (x : List ℕ). Puts c.put_value.result c.args.out.now c.args.at c.put_value.new.out x) (appends.param_some c.args.table.now.entries c.args.outer c.args.args.now c.args.param.position c.args.param.kind c.args.param.hint (plain c.in-Some.value.now) c.in-Some.ensures) (rw (← c.acting-hint.ensures) c.put_value.ensures)

pub put_param-put_value-requires : goal.put_param-put_value-requires
put_param-put_value-requires t c = (omega (arith, c.decreases, appends.size_get c.args.args.now c.args.param.position (plain c.in-Some.value.now) c.in-Some.ensures), c.requires)

pub put_pieces-each-init : goal.put_pieces-each-init
put_pieces-each-init t c = parts.pending_none c.args.out.now c.args.at (pieces_text c.args.outer c.args.pieces.now (shows c.args.table.now.entries c.args.args.now)) c.requires

pub put_pieces-each-preserved : goal.put_pieces-each-preserved
put_pieces-each-preserved t c =
    parts.pending_step (piece_text c.args.outer c.in-Some.piece.now (shows c.args.table.now.entries c.args.args.now)) (pieces_text c.args.outer c.in-Some.more.now (shows c.args.table.now.entries c.args.args.now))
    (appends.pieces_step c.args.outer c.each.rest.now c.in-Some.more.now c.in-Some.piece.now (shows c.args.table.now.entries c.args.args.now) c.in-Some.ensures) c.each.invariant c.in_ok-end.ensures

pub put_pieces-returns-in_err-end : goal.put_pieces-returns-in_err-end
put_pieces-returns-in_err-end t c =
    rw c.from_residual.ensures (parts.pending_full (piece_text c.args.outer c.in-Some.piece.now (shows c.args.table.now.entries c.args.args.now)) (pieces_text c.args.outer c.in-Some.more.now (shows c.args.table.now.entries c.args.args.now))
    (appends.pieces_step c.args.outer c.each.rest.now c.in-Some.more.now c.in-Some.piece.now (shows c.args.table.now.entries c.args.args.now) c.in-Some.ensures) c.each.invariant c.in_err-end.ensures)

pub put_pieces-returns : goal.put_pieces-returns
put_pieces-returns t c =
    parts.pending_end (appends.pieces_none c.args.outer c.each.rest.now (shows c.args.table.now.entries c.args.args.now) c.in_default.ensures) c.each.invariant

pub put_item-returns-in_err-behind : goal.put_item-returns-in_err-behind
put_item-returns-in_err-behind t c =
    rw c.from_residual.ensures (full_front _ _ _ (comma c.args.first)
    (pieces_text c.args.hint (node_pieces c.args.table.now.entries c.args.index c.args.item.now.variant) (shows c.args.table.now.entries c.args.item.now.args))
    (rw (c.as_bytes.ensures.value, c.comma.ensures) at c.in_err-behind.ensures))

pub put_item-returns : goal.put_item-returns
put_item-returns t c =
    parts.puts_two c.put_pieces.result c.put_pieces.new.out (comma c.args.first) (pieces_text c.args.hint (node_pieces c.args.table.now.entries c.args.index c.args.item.now.variant) (shows c.args.table.now.entries c.args.item.now.args))
    c.requires (parts.placed (utf8_comma c.args.first) (rw (c.as_bytes.ensures.value, c.comma.ensures) at c.in_ok-behind.ensures)) (rw c.node_pieces-pieces.ensures at c.put_pieces.ensures)

pub put_items-each-preserved : goal.put_items-each-preserved
put_items-each-preserved t c = record {
  smaller = appends.elems_smaller c.each.rest.now c.in-Some.more.now c.in-Some.item.now _ c.in-Some.ensures c.each.invariant.smaller;
  pending = parts.pending_step (comma c.each.first ++ pieces_text c.args.hint (node_pieces c.args.table.now.entries c.args.index c.in-Some.item.now.variant) (shows c.args.table.now.entries c.in-Some.item.now.args))
      (appends.joined false (show_elems c.args.table.now.entries c.args.index c.args.hint (elems_of c.in-Some.more.now)))
      (appends.elems_step c.args.table.now.entries c.args.index c.args.hint c.each.first c.each.rest.now c.in-Some.more.now c.in-Some.item.now c.in-Some.ensures) c.each.invariant.pending c.in_ok-end.ensures;
}

pub put_items-returns-in_err-end : goal.put_items-returns-in_err-end
put_items-returns-in_err-end t c =
    rw c.from_residual.ensures (parts.pending_full (comma c.each.first ++ pieces_text c.args.hint (node_pieces c.args.table.now.entries c.args.index c.in-Some.item.now.variant) (shows c.args.table.now.entries c.in-Some.item.now.args))
    (appends.joined false (show_elems c.args.table.now.entries c.args.index c.args.hint (elems_of c.in-Some.more.now)))
    (appends.elems_step c.args.table.now.entries c.args.index c.args.hint c.each.first c.each.rest.now c.in-Some.more.now c.in-Some.item.now c.in-Some.ensures) c.each.invariant.pending c.in_err-end.ensures)

pub put_items-returns : goal.put_items-returns
put_items-returns t c =
    parts.pending_end (appends.elems_none c.args.table.now.entries c.args.index c.args.hint c.each.first c.each.rest.now c.in_default.ensures) c.each.invariant.pending

pub put_list-returns-in_err-open : goal.put_list-returns-in_err-open
unfolding list_text
put_list-returns-in_err-open t c =
    let xs : List (List ℕ) = show_elems c.args.table.now.entries c.args.index c.args.hint c.args.items.now in
    rw c.from_residual.ensures (full_front _ _ _ (codes "[") (parted xs ++ codes "]") c.in_err-open.ensures)

pub put_list-returns-in_err-behind : goal.put_list-returns-in_err-behind
unfolding list_text
put_list-returns-in_err-behind t c =
    let xs : List (List ℕ) = show_elems c.args.table.now.entries c.args.index c.args.hint c.args.items.now in
    rw c.from_residual-in_err-behind.ensures (parts.puts_two None c.put_items.new.out (codes "[") (parted xs ++ codes "]") c.requires (parts.placed utf8_open c.in_ok-open.ensures) (full_front _ _ _ (parted xs) (codes "]") c.in_err-behind.ensures))

pub put_list-returns : goal.put_list-returns
unfolding list_text
put_list-returns t c =
    let xs : List (List ℕ) = show_elems c.args.table.now.entries c.args.index c.args.hint c.args.items.now in
    parts.puts_two c.put-2.result c.put-2.new.out (codes "[") (parted xs ++ codes "]") c.requires (parts.placed utf8_open c.in_ok-open.ensures)
    (parts.puts_two c.put-2.result c.put-2.new.out (parted xs) (codes "]") (parts.placed_length c.requires (parts.placed utf8_open c.in_ok-open.ensures)).1 c.in_ok-behind.ensures (parts.puts_of c.put-2.result _ _ _ _ utf8_close c.put-2.ensures))

pub put_nodes-each-preserved : goal.put_nodes-each-preserved
put_nodes-each-preserved t c = record {
  smaller = appends.nodes_smaller c.each.rest.now c.in-Some.more.now c.in-Some.node.now _ c.in-Some.ensures c.each.invariant.smaller;
  pending = parts.pending_step (pieces_text c.args.hint (node_pieces c.args.table.now.entries c.in-Some.node.now.index c.in-Some.node.now.variant) (shows c.args.table.now.entries c.in-Some.node.now.args))
      (show_nodes c.args.table.now.entries c.args.hint (nodes_of c.in-Some.more.now))
      (appends.nodes_step c.args.table.now.entries c.args.hint c.each.rest.now c.in-Some.more.now c.in-Some.node.now c.in-Some.ensures) c.each.invariant.pending c.in_ok-end.ensures;
}

pub put_nodes-returns-in_err-end : goal.put_nodes-returns-in_err-end
put_nodes-returns-in_err-end t c =
    rw c.from_residual.ensures (parts.pending_full (pieces_text c.args.hint (node_pieces c.args.table.now.entries c.in-Some.node.now.index c.in-Some.node.now.variant) (shows c.args.table.now.entries c.in-Some.node.now.args))
    (show_nodes c.args.table.now.entries c.args.hint (nodes_of c.in-Some.more.now))
    (appends.nodes_step c.args.table.now.entries c.args.hint c.each.rest.now c.in-Some.more.now c.in-Some.node.now c.in-Some.ensures) c.each.invariant.pending c.in_err-end.ensures)

pub put_nodes-returns : goal.put_nodes-returns
put_nodes-returns t c =
    parts.pending_end (appends.nodes_none c.args.table.now.entries c.args.hint c.each.rest.now c.in_default.ensures) c.each.invariant.pending
