use Rattle.std.proofs.Common.{◌≡◌, ◌≤◌, ◌+◌, ℕ, map, sym, subst, arith}
use Rattle.defmt_values.specs.View.{plain, vals_of, elems_of, nodes_of}
use Rattle.defmt_encode.specs.Out.{HasAtMost, HaveAtMost}
use Rattle.defmt_encode.proofs.Most.{Above, AboveEach, AboveNodes, above_more, above_all, each_more, each_all, each_node_more, each_node_all, vals_smaller, elems_smaller, nodes_smaller, uint_most, int_most, flag_most, char_most, istr_most, str_most, float_most, bytes_most, format_most, seq_most, sequence_most}
use Rattle.defmt_encode.proofs.bounds.+most.Goals as goal

pub most_bytes-returns-in-Bool : goal.most_bytes-returns-in-Bool
most_bytes-returns-in-Bool t c = λ few. rw c.in-Bool.is (flag_most c.in-Bool.field-0)

pub most_bytes-returns-in-Istr : goal.most_bytes-returns-in-Istr
most_bytes-returns-in-Istr t c = λ few. rw c.in-Istr.is (istr_most c.in-Istr.field-0)

pub most_bytes-returns-in-Char : goal.most_bytes-returns-in-Char
most_bytes-returns-in-Char t c = λ few. rw c.in-Char.is (char_most c.in-Char.field-0)

pub most_bytes-returns-in-Uint : goal.most_bytes-returns-in-Uint
most_bytes-returns-in-Uint t c = λ few. rw c.in-Uint.is (uint_most c.in-Uint.field-0)

pub most_bytes-returns-in-Int : goal.most_bytes-returns-in-Int
most_bytes-returns-in-Int t c = λ few. rw c.in-Int.is (int_most c.in-Int.field-0)

pub most_bytes-returns-in-Str : goal.most_bytes-returns-in-Str
most_bytes-returns-in-Str t c = λ few. rw c.in-Str.is (str_most c.in-Str.text c.saturating_add.result (omega arith))

pub most_bytes-returns-in-Bytes : goal.most_bytes-returns-in-Bytes
most_bytes-returns-in-Bytes t c = λ few. rw c.in-Bytes.is (bytes_most c.in-Bytes.bytes.items c.saturating_add-in-Bytes.result (omega arith))

pub most_bytes-returns-in-Format : goal.most_bytes-returns-in-Format
most_bytes-returns-in-Format t c = λ few.
    let within : c.most_inside.result + 3 ≤ c.saturating_add-in-Format.result = omega (arith, few) in
    let low : c.most_inside.result ≤ 2000 = omega (arith, few, within) in
    rw c.in-Format.is (format_most c.in-Format.node.index c.in-Format.node.variant c.in-Format.node.args c.most_inside.result c.saturating_add-in-Format.result within (c.most_inside.ensures low))

pub most_bytes-returns-in-Seq : goal.most_bytes-returns-in-Seq
most_bytes-returns-in-Seq t c = λ few.
    let within : c.most_of_each.result + 6 ≤ c.saturating_add-in-Seq.result = omega (arith, few) in
    let low : c.most_of_each.result ≤ 2000 = omega (arith, few, within) in
    rw c.in-Seq.is (seq_most c.in-Seq.seq.index c.in-Seq.seq.items c.most_of_each.result c.saturating_add-in-Seq.result within (c.most_of_each.ensures low))

pub most_bytes-returns-in-Float : goal.most_bytes-returns-in-Float
most_bytes-returns-in-Float t c = λ few. rw c.in-Float.is (float_most c.in-Float.field-0)

pub most_bytes-returns-in-Sequence : goal.most_bytes-returns-in-Sequence
most_bytes-returns-in-Sequence t c = λ few.
    let within : c.most_of_nodes.result + 2 ≤ c.saturating_add-in-Sequence.result = omega (arith, few) in
    let low : c.most_of_nodes.result ≤ 2000 = omega (arith, few, within) in
    rw c.in-Sequence.is (sequence_most c.in-Sequence.nodes c.most_of_nodes.result c.saturating_add-in-Sequence.result within (c.most_of_nodes.ensures low))

pub most_of-each-preserved : goal.most_of-each-preserved
most_of-each-preserved t c = record {
  smaller = vals_smaller c.each.values.now c.in-Some.more.now c.in-Some.value.now c.in-Some.ensures _ c.each.invariant.smaller;
  above = λ few.
      let sum : c.saturating_add-most.result ≡ c.each.most + c.most_bytes.result = omega (arith, few) in
      let low : c.each.most ≤ 2000 = omega (arith, few) in
      let one : HasAtMost (plain c.in-Some.value.now) c.most_bytes.result = c.most_bytes.ensures (omega (arith, few)) in
      subst (λ (k : ℕ). Above c.args.args.now (vals_of (map plain c.in-Some.more.now)) k) (sym sum)
      (above_more c.args.args.now c.each.values.now c.in-Some.more.now c.in-Some.value.now c.each.most c.most_bytes.result c.in-Some.ensures one (c.each.invariant.above low));
}

pub most_of-returns : goal.most_of-returns
most_of-returns t c = λ few. above_all c.args.args.now c.each.values.now c.each.most c.in_default.ensures (c.each.invariant.above few)

pub most_of_each-each-preserved : goal.most_of_each-each-preserved
most_of_each-each-preserved t c = record {
  smaller = elems_smaller c.each.rest.now c.in-Some.more.now c.in-Some.item.now c.in-Some.ensures _ c.each.invariant.smaller;
  above = λ few.
      let sum : c.saturating_add-most.result ≡ c.each.most + c.most_inside.result + 1 = omega (arith, few) in
      let low : c.each.most ≤ 2000 = omega (arith, few) in
      let one : HaveAtMost c.in-Some.item.now.args c.most_inside.result = c.most_inside.ensures (omega (arith, few)) in
      subst (λ (k : ℕ). AboveEach c.args.items.now (elems_of c.in-Some.more.now) k) (sym sum)
      (each_more c.args.items.now c.each.rest.now c.in-Some.more.now c.in-Some.item.now c.each.most c.most_inside.result c.in-Some.ensures one (c.each.invariant.above low));
}

pub most_of_each-returns : goal.most_of_each-returns
most_of_each-returns t c = λ few. each_all c.args.items.now c.each.rest.now c.each.most c.in_default.ensures (c.each.invariant.above few)

pub most_of_nodes-each-preserved : goal.most_of_nodes-each-preserved
most_of_nodes-each-preserved t c = record {
  smaller = nodes_smaller c.each.rest.now c.in-Some.more.now c.in-Some.node.now c.in-Some.ensures _ c.each.invariant.smaller;
  above = λ few.
      let sum : c.saturating_add-most.result ≡ c.each.most + c.most_inside.result + 3 = omega (arith, few) in
      let low : c.each.most ≤ 2000 = omega (arith, few) in
      let one : HaveAtMost c.in-Some.node.now.args c.most_inside.result = c.most_inside.ensures (omega (arith, few)) in
      subst (λ (k : ℕ). AboveNodes c.args.nodes.now (nodes_of c.in-Some.more.now) k) (sym sum)
      (each_node_more c.args.nodes.now c.each.rest.now c.in-Some.more.now c.in-Some.node.now c.each.most c.most_inside.result c.in-Some.ensures one (c.each.invariant.above low));
}

pub most_of_nodes-returns : goal.most_of_nodes-returns
most_of_nodes-returns t c = λ few. each_node_all c.args.nodes.now c.each.rest.now c.each.most c.in_default.ensures (c.each.invariant.above few)
