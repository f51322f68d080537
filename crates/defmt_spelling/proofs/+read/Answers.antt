use Rattle.std.proofs.Common.{◌∙◌, sym}
use Rattle.std.proofs.lemmas.Bool.{OnTrue_at}
use Rattle.std.proofs.lemmas.Result.{err_from_is_err_and}
use Rattle.defmt_spelling.proofs.Arms as arms
use Rattle.defmt_spelling.proofs.Calls as calls
use Rattle.defmt_spelling.proofs.ElementLaws as elements
use Rattle.defmt_spelling.proofs.Exits as exits
use Rattle.defmt_spelling.proofs.Loops as loops
use Rattle.defmt_spelling.proofs.ItemLoops as item_loops
use Rattle.std.specs.Prelude.{IfSome}
use Rattle.std.specs.Str.{IsUtf8}
use Rattle.std.proofs.Common.{◌≡◌, ◌<◌, length, ◌*◌, ◌^◌, ◌-◌, Ok, Err, None, subst, ap, min, refl, arith, Option, List, ℕ, Bor}
use Rattle.defmt_spelling.proofs.QuickLaws.{quick_front}
use Rattle.defmt_grammar.specs.Slots.{uses_at}
use Rattle.defmt_spelling.specs.Quick.{Appends}
use Rattle.defmt_values.specs.Plain.{Vals, snoc}
use Rattle.defmt_shapes.specs.Spelling.{IsItem, IsValue}
use Rattle.defmt_spelling.proofs.Firsts.{one_head, one_item}
use Rattle.defmt_spelling.specs.Meaning.{index_of}
use Rattle.defmt_spelling.specs.Reading.{FindsCall, SpellsSome}
use Rattle.defmt_values.proofs.Scans as scans
use Rattle.defmt_values.specs.Entries.{places_of}
use Rattle.defmt_values.specs.View.{plain}
use Rattle.defmt_values.specs.Scan.{scan_val}
use Rattle.defmt_shapes.specs.Shape.{call, SpellsShapes}
use Rattle.defmt_shapes.proofs.LastCalls.{call_there}
use Rattle.defmt_spelling.proofs.+read.Goals as goal

pub nested::read_node-returns-in_err-check_node-clause-value : goal.nested::read_node-returns-in_err-check_node-clause-value
nested::read_node-returns-in_err-check_node-clause-value t c = λ v ss m s.
    let p = err_from_is_err_and c.from_residual.result c.from_residual.ensures.1 in
    rw (p.1, p.2) (exits.node_kind_exit c.args.names.now c.args.table.now.entries c.args.left c.args.weight c.args.sum c.args.slot c.args.name.now v ss _ c.in_err-check_node.ensures)

pub nested::read_node-returns-in_err-index-clause-value : goal.nested::read_node-returns-in_err-index-clause-value
nested::read_node-returns-in_err-index-clause-value t c = λ v ss m s.
    let p = err_from_is_err_and c.from_residual-in_err-index.result c.from_residual-in_err-index.ensures.1 in
    rw (p.1, p.2) (exits.node_entry_exit c.args.names.now c.args.table.now.entries c.args.left c.args.weight c.args.sum c.args.slot c.args.name.now v ss _ c.in_ok-check_node.ensures c.in_err-index.ensures.form)

pub nested::read_node-returns-in_err-item-clause-value : goal.nested::read_node-returns-in_err-item-clause-value
nested::read_node-returns-in_err-item-clause-value t c = λ v ss m s.
    let p = err_from_is_err_and c.from_residual-in_err-item.result c.from_residual-in_err-item.ensures.1 in
    rw (p.1, p.2) (exits.node_item_exit c.args.names.now c.args.table.now.entries c.args.left c.args.weight c.args.sum c.args.slot c.args.name.now v ss _ c.in_ok-index.form.now c.in_ok-check_node.ensures c.in_ok-index.ensures.form.1 (c.in_err-item.ensures.value v ss m s))

pub nested::read_node-returns-clause-value : goal.nested::read_node-returns-clause-value
nested::read_node-returns-clause-value t c = λ v ss m s.
    exits.node_end c.args.names.now c.args.table.now.entries c.args.left c.args.weight c.args.sum c.args.slot c.args.name.now v ss c.in_ok-index.index c.in_ok-index.form.now _ _ _ c.in_ok-check_node.ensures c.in_ok-index.ensures.form (c.in_ok-item.ensures.value v ss m s)

pub nested::read_list-returns-in_err-check_list-clause-value : goal.nested::read_list-returns-in_err-check_list-clause-value
nested::read_list-returns-in_err-check_list-clause-value t c = λ items n s.
    let p = err_from_is_err_and c.from_residual.result c.from_residual.ensures.1 in
    rw (p.1, p.2) (exits.list_kind_exit c.args.names.now c.args.table.now.entries c.args.left c.args.weight c.args.sum c.args.slot c.args.name.now c.args.inside.now items n s _ c.in_err-check_list.ensures)

pub nested::read_list-returns-in_err-index-clause-value : goal.nested::read_list-returns-in_err-index-clause-value
nested::read_list-returns-in_err-index-clause-value t c = λ items n s.
    let p = err_from_is_err_and c.from_residual-in_err-index.result c.from_residual-in_err-index.ensures.1 in
    rw (p.1, p.2) (exits.list_entry_exit c.args.names.now c.args.table.now.entries c.args.left c.args.weight c.args.sum c.args.slot c.args.name.now c.args.inside.now items n s _ c.in_ok-check_list.ensures c.in_err-index.ensures.form)

pub nested::read_list-returns-in_err-items-clause-value : goal.nested::read_list-returns-in_err-items-clause-value
nested::read_list-returns-in_err-items-clause-value t c = λ items n s.
    let p = err_from_is_err_and c.from_residual-in_err-items.result c.from_residual-in_err-items.ensures.1 in
    rw (p.1, p.2) (exits.list_items_exit c.args.names.now c.args.table.now.entries c.args.left c.args.weight c.args.sum c.args.slot c.args.name.now c.args.inside.now items n s _ c.in_ok-index.form.now c.in_ok-check_list.ensures c.in_ok-index.ensures.form.1
    (c.in_err-items.ensures.value (index_of c.args.names.now c.args.name.now) items (arms.form_there c.args.table.now.entries c.args.left _ c.in_ok-index.form.now c.in_ok-index.ensures.form.1) s))

pub nested::read_list-returns-in_err-check_count-clause-value : goal.nested::read_list-returns-in_err-check_count-clause-value
nested::read_list-returns-in_err-check_count-clause-value t c = λ items n s.
    let p = err_from_is_err_and c.from_residual-in_err-check_count.result c.from_residual-in_err-check_count.ensures.1 in
    rw (p.1, p.2) (exits.list_count_exit c.args.names.now c.args.table.now.entries c.args.left c.args.weight c.args.sum c.args.slot c.args.name.now c.args.inside.now items n s _ c.in_ok-index.form.now c.in_ok-items.items c.in_ok-items.sum c.len.result c.in_ok-check_list.ensures c.in_ok-index.ensures.form.1
    (c.in_ok-items.ensures.value (index_of c.args.names.now c.args.name.now) items (arms.form_there c.args.table.now.entries c.args.left _ c.in_ok-index.form.now c.in_ok-index.ensures.form.1) s) c.len.ensures c.in_err-check_count.ensures)

pub nested::read_list-returns-clause-value : goal.nested::read_list-returns-clause-value
nested::read_list-returns-clause-value t c = λ items n s.
    exits.list_end c.args.names.now c.args.table.now.entries c.args.left c.args.weight c.args.sum c.args.slot c.args.name.now c.args.inside.now items n s c.in_ok-index.index c.in_ok-index.form.now c.in_ok-items.items c.in_ok-items.sum c.len.result c.in_ok-check_list.ensures c.in_ok-index.ensures.form
    (c.in_ok-items.ensures.value (index_of c.args.names.now c.args.name.now) items (arms.form_there c.args.table.now.entries c.args.left _ c.in_ok-index.form.now c.in_ok-index.ensures.form.1) s) c.len.ensures c.in_ok-check_count.ensures

pub reading::read_front-returns-in_default-clause-value : goal.reading::read_front-returns-in_default-clause-value
reading::read_front-returns-in_default-clause-value t c =
    rw c.into-in_default.ensures (loops.front_unspelled c.args.names.now c.args.table.now.entries c.args.left c.args.slot c.args.weight c.args.sum c.args.text.now c.skip_spaces-text.result.now c.skip_spaces-text.ensures.rest c.if-is_empty.ensures
    (subst (λ l. IsValue l c.skip_spaces-text.result.now None) c.language.ensures (subst (λ o. IsValue c.language.result c.skip_spaces-text.result.now o) c.in_default.is c.in_ok-spelling.ensures.value)))

pub nested::read_item-returns-in_err-args-clause-value : goal.nested::read_item-returns-in_err-args-clause-value
nested::read_item-returns-in_err-args-clause-value t c = λ v ss m s.
    let p = err_from_is_err_and c.from_residual-in_err-args.result c.from_residual-in_err-args.ensures.1 in
    let inside = loops.inside_gives c.args.names.now c.args.table.now.entries c.args.left c.args.weight (one_head c.args.table.now.entries.language) (places_of c.in_ok-pieces.pieces.now) c.in_ok-sum.sum c.args.inside.now (Err c.in_err-args.field-0.0) c.in_err-args.ensures.value ss s in
    rw (p.1, p.2) (exits.item_values_exit c.args.names.now c.args.table.now.entries c.args.left c.args.weight c.args.sum c.args.form.now v ss c.in_err-args.field-0.0 c.in_ok-sum.sum c.in_ok-pieces.pieces.now c.in_ok-sum.ensures.value (c.in_ok-pieces.ensures v m).0 inside)

pub nested::read_item-returns-clause-value : goal.nested::read_item-returns-clause-value
nested::read_item-returns-clause-value t c = λ v ss m s.
    let inside = loops.inside_gives c.args.names.now c.args.table.now.entries c.args.left c.args.weight (one_head c.args.table.now.entries.language) (places_of c.in_ok-pieces.pieces.now) c.in_ok-sum.sum c.args.inside.now (Ok (c.in_ok-args.args, c.in_ok-args.sum)) c.in_ok-args.ensures.value ss s in
    exits.item_end c.args.names.now c.args.table.now.entries c.args.left c.args.weight c.args.sum c.args.form.now v ss c.in_ok-sum.sum c.in_ok-pieces.pieces.now c.in_ok-pieces.variant c.in_ok-args.args c.in_ok-args.sum c.in_ok-sum.ensures.value (c.in_ok-pieces.ensures v m) inside

pub nested::read_items-returns-in_err-item-clause-value : goal.nested::read_items-returns-in_err-item-clause-value
nested::read_items-returns-in_err-item-clause-value t c = λ index items there s.
    let p = err_from_is_err_and c.from_residual-in_err-item.result c.from_residual-in_err-item.ensures.1 in
    let f = c.each.invariant.left index items there s in
    let told = item_loops.told_item one_item c.args.table.now.entries.language c.each.rest.now c.skip_spaces.result.now f.others c.in_ok-told.field-0 c.in-Some.told c.in-Some.more c.skip_spaces.ensures.rest (subst (λ l. IsItem l c.skip_spaces.result.now c.in_ok-told.field-0) c.language-language.ensures c.in_ok-told.ensures.item) c.in-Some.is f.spelled in
    rw (p.1, p.2) (item_loops.item_exit c.args.names.now c.args.table.now.entries c.args.left c.args.weight c.args.form.now index c.args.sum items there c.each.items c.each.total c.each.rest.now f told.variant told.shapes told.more told.is _ (c.in_err-item.ensures.value told.variant told.shapes told.holds told.spelled))

pub nested::read_items-each-preserved : goal.nested::read_items-each-preserved
nested::read_items-each-preserved t c = record {
  small = c.in_ok-item.ensures.small;
  utf8 = subst (λ o. IfSome o (λ p. IsUtf8 p.1.now)) c.in-Some.is c.in_ok-told.ensures.utf8;
  left = λ index items there s.
      let f = c.each.invariant.left index items there s in
      let told = item_loops.told_item one_item c.args.table.now.entries.language c.each.rest.now c.skip_spaces.result.now f.others c.in_ok-told.field-0 c.in-Some.told c.in-Some.more c.skip_spaces.ensures.rest (subst (λ l. IsItem l c.skip_spaces.result.now c.in_ok-told.field-0) c.language-language.ensures c.in_ok-told.ensures.item) c.in-Some.is f.spelled in
      let v = c.in_ok-item.ensures.value told.variant told.shapes told.holds told.spelled in
      item_loops.item_done c.args.names.now c.args.table.now.entries c.args.left c.args.weight c.args.form.now index c.args.sum items there c.each.items c.each.total c.each.rest.now f told.variant told.shapes told.more told.is c.in_ok-item.item.variant c.in_ok-item.item.args c.in_ok-item.next c.push.new.self c.in-Some.more.now v.0 v.1 v.2 c.in_ok-push.ensures.ok told.later;
}

pub nested::read_items-each-smaller : goal.nested::read_items-each-smaller
nested::read_items-each-smaller t c = item_loops.told_shorter c.args.table.now.entries.language c.each.rest.now c.skip_spaces.result.now c.in_ok-told.field-0 c.in-Some.told c.in-Some.more c.skip_spaces.ensures.rest (subst (λ l. IsItem l c.skip_spaces.result.now c.in_ok-told.field-0) c.language-language.ensures c.in_ok-told.ensures.item) c.in-Some.is

pub nested::read_items-returns-clause-value : goal.nested::read_items-returns-clause-value
nested::read_items-returns-clause-value t c = λ index items there s.
    let f = c.each.invariant.left index items there s in
    item_loops.no_items_left c.args.names.now c.args.table.now.entries c.args.left c.args.weight c.args.form.now index c.args.sum items there c.each.items c.each.total c.each.rest.now f
    (item_loops.told_none c.args.table.now.entries.language c.each.rest.now c.skip_spaces.result.now f.others c.in_ok-told.field-0 c.skip_spaces.ensures.rest (subst (λ l. IsItem l c.skip_spaces.result.now c.in_ok-told.field-0) c.language-language.ensures c.in_ok-told.ensures.item) c.in_default.is f.spelled)

pub reading::read_values-returns-in_err-value-clause-value : goal.reading::read_values-returns-in_err-value-clause-value
reading::read_values-returns-in_err-value-clause-value t c =
    let p = err_from_is_err_and c.from_residual-in_err-value.result c.from_residual-in_err-value.ensures.1 in
    rw (p.1, p.2) (loops.one_exit c.args.names.now c.args.table.now.entries c.args.left c.args.weight c.args.pieces.now (places_of c.args.pieces.now) c.args.sum c.args.text.now c.each.args c.each.position c.each.slots.now c.each.total c.each.rest.now c.each.invariant.follows
    c.in-Some.slot.now c.in-Some.others.now c.saturating_mul-weight_there.result _ c.in-Some.ensures (rw (← c.uses.ensures) c.saturating_mul-weight_there.ensures) c.in_err-value.ensures.value)

pub reading::read_values-read_next-requires : goal.reading::read_values-read_next-requires
reading::read_values-read_next-requires t c = (
  omega arith,
  (c.each.invariant.small, loops.sound_first c.each.slots.now c.in-Some.others.now c.in-Some.slot.now c.in-Some.ensures c.each.invariant.sound),
)

pub reading::read_values-each-preserved-in-Some-2 : goal.reading::read_values-each-preserved-in-Some-2
reading::read_values-each-preserved-in-Some-2 t c =
    let q = subst (λ (o : Option (Bor (List ℕ))). Appends c.in-Some.slot.now c.skip_spaces.result.now c.each.args c.push_quick.new.args o) c.in-Some-2.is c.in_ok-after.ensures.value in
    let cap : ℕ = min (uses_at c.each.position c.args.pieces.now * c.args.weight) (2 ^ 64 - 1) in record {
      small = c.each.invariant.small;
      few = scans.few_left c.each.position c.each.slots.now c.in-Some.slot.now c.in-Some.others.now c.in-Some.ensures c.each.invariant.few;
      utf8 = subst (λ (o : Option (Bor (List ℕ))). IfSome o (λ rest. IsUtf8 rest.now)) c.in-Some-2.is c.in_ok-after.ensures.utf8;
      sound = loops.sound_others c.each.slots.now c.in-Some.others.now c.in-Some.slot.now c.in-Some.ensures c.each.invariant.sound;
      follows = loops.one_done c.args.names.now c.args.table.now.entries c.args.left c.args.weight c.args.pieces.now (places_of c.args.pieces.now) c.args.sum c.args.text.now c.each.args c.each.position c.each.slots.now c.each.total c.each.rest.now c.each.invariant.follows
          c.in-Some.slot.now c.in-Some.others.now cap q.value c.each.total c.in-Some-2.after.now c.push_quick.new.args c.in-Some.ensures refl
          (quick_front c.args.names.now c.args.table.now.entries c.args.left c.in-Some.slot.now cap c.each.total c.each.rest.now c.skip_spaces.result.now q.value c.in-Some-2.after.now c.skip_spaces.ensures.rest q.quick) q.is;
    }

pub reading::read_values-each-preserved : goal.reading::read_values-each-preserved
reading::read_values-each-preserved t c =
    let same : c.push_quick.new.args ≡ c.each.args = subst (λ (o : Option (Bor (List ℕ))). Appends c.in-Some.slot.now c.skip_spaces.result.now c.each.args c.push_quick.new.args o) c.in_default-2.is c.in_ok-after.ensures.value in record {
      small = c.in_ok-value.ensures.small;
      few = scans.few_left c.each.position c.each.slots.now c.in-Some.slot.now c.in-Some.others.now c.in-Some.ensures c.each.invariant.few;
      utf8 = c.in_ok-value.ensures.utf8;
      sound = loops.sound_others c.each.slots.now c.in-Some.others.now c.in-Some.slot.now c.in-Some.ensures c.each.invariant.sound;
      follows = loops.one_done c.args.names.now c.args.table.now.entries c.args.left c.args.weight c.args.pieces.now (places_of c.args.pieces.now) c.args.sum c.args.text.now c.each.args c.each.position c.each.slots.now c.each.total c.each.rest.now c.each.invariant.follows
          c.in-Some.slot.now c.in-Some.others.now c.saturating_mul-weight_there.result (plain c.in_ok-value.value) c.in_ok-value.next c.in_ok-value.after.now c.push.new.self c.in-Some.ensures (rw (← c.uses.ensures) c.saturating_mul-weight_there.ensures) c.in_ok-value.ensures.value (c.in_ok-push.ensures.ok ∙ ap (λ (vs : Vals). snoc vs (plain c.in_ok-value.value)) same);
    }

pub reading::read_values-returns-then-is_empty-clause-value : goal.reading::read_values-returns-then-is_empty-clause-value
reading::read_values-returns-then-is_empty-clause-value t c =
    loops.all_done c.args.names.now c.args.table.now.entries c.args.left c.args.weight c.args.pieces.now (places_of c.args.pieces.now) c.args.sum c.args.text.now c.each.args c.each.position c.each.slots.now c.each.total c.each.rest.now c.each.invariant.follows
    c.in_default.ensures (sym c.skip_spaces-2.ensures.rest ∙ loops.empty_is c.skip_spaces-2.result.now (sym c.if-is_empty.ensures))

pub reading::read_values-returns-else-is_empty-clause-value : goal.reading::read_values-returns-else-is_empty-clause-value
reading::read_values-returns-else-is_empty-clause-value t c =
    rw c.into.ensures (loops.one_too_many c.args.names.now c.args.table.now.entries c.args.left c.args.weight c.args.pieces.now (places_of c.args.pieces.now) c.args.sum c.args.text.now c.each.args c.each.position c.each.slots.now c.each.total c.each.rest.now c.each.invariant.follows
    c.in_default.ensures (loops.starts_is c.each.rest.now (rw (← c.skip_spaces-2.ensures.rest) (sym c.if-is_empty.ensures))))

pub reading::read_next-returns-in-Ok-clause-value : goal.reading::read_next-returns-in-Ok-clause-value
reading::read_next-returns-in-Ok-clause-value t c =
    let s = c.in-Ok.ensures.spelled in
    let k = c.in-Ok.ensures.value None s.shapes tt s.spelled in record {
      shape = call c.in-Some.name.now None s.shapes;
      head = calls.at_end c.args.table.now.entries.language c.args.text.now c.skip_spaces.result.now c.split_at.result.1.now _ c.skip_spaces.ensures.rest (call_there c.args.table.now.entries.language c.skip_spaces.result.now c.in-Some.name.now c.in-Some.inside.now s.shapes c.in-Some.ensures.parts s.spelled) c.split_at.ensures.back;
      meant = sym k.0;
      fits = ap (scan_val c.args.table.now.entries c.args.left c.args.slot c.args.weight c.args.sum) k.0 ∙ k.1;
    }

pub nested::read_item-returns-clause-spelled : goal.nested::read_item-returns-clause-spelled
nested::read_item-returns-clause-spelled t c =
    let m = c.in_ok-args.ensures.value in record { shapes = m.shapes; spelled = m.spelled }

pub nested::read_node-returns-clause-spelled : goal.nested::read_node-returns-clause-spelled
nested::read_node-returns-clause-spelled t c = c.in_ok-item.ensures.spelled

pub reading::read_next-returns-then-spelled-clause-value : goal.reading::read_next-returns-then-spelled-clause-value
reading::read_next-returns-then-spelled-clause-value t c =
    let s = subst (λ l. SpellsSome l c.in-Some.inside.now) c.language.ensures (OnTrue_at c.if-spelled.true c.in_ok-spelled-in-Err.ensures) in
    calls.call_exit c.args.names.now c.args.table.now.entries c.args.left c.args.slot c.args.weight c.args.sum c.args.text.now c.skip_spaces.result.now c.in-Some.name.now c.in-Some.inside.now c.in-Err.fault s c.skip_spaces.ensures.rest c.in-Some.ensures.parts
    (c.in-Err.ensures.value None s.shapes tt s.spelled)

pub sequences::read_sequence-returns-in_err-check_sequence-clause-value : goal.sequences::read_sequence-returns-in_err-check_sequence-clause-value
sequences::read_sequence-returns-in_err-check_sequence-clause-value t c = λ ss calls s.
    let p = err_from_is_err_and c.from_residual.result c.from_residual.ensures.1 in
    rw (p.1, p.2) (elements.sequence_kind_exit c.args.names.now c.args.table.now.entries c.args.left c.args.weight c.args.sum c.args.slot ss _ c.in_err-check_sequence.ensures)

pub sequences::read_sequence-returns-in_err-nodes-clause-value : goal.sequences::read_sequence-returns-in_err-nodes-clause-value
sequences::read_sequence-returns-in_err-nodes-clause-value t c = λ ss calls s.
    let p = err_from_is_err_and c.from_residual-in_err-nodes.result c.from_residual-in_err-nodes.ensures.1 in
    rw (p.1, p.2) (elements.sequence_nodes_exit c.args.names.now c.args.table.now.entries c.args.left c.args.weight c.args.sum c.args.slot ss _ c.in_ok-check_sequence.ensures (c.in_err-nodes.ensures.value ss calls s))

pub sequences::read_sequence-returns-clause-value : goal.sequences::read_sequence-returns-clause-value
sequences::read_sequence-returns-clause-value t c = λ ss calls s.
    elements.sequence_end c.args.names.now c.args.table.now.entries c.args.left c.args.weight c.args.sum c.args.slot ss c.in_ok-nodes.nodes c.in_ok-nodes.sum c.in_ok-check_sequence.ensures (c.in_ok-nodes.ensures.value ss calls s)

pub sequences::read_element-returns-in_err-index-clause-value : goal.sequences::read_element-returns-in_err-index-clause-value
sequences::read_element-returns-in_err-index-clause-value t c = λ v ss m s.
    let p = err_from_is_err_and c.from_residual.result c.from_residual.ensures.1 in
    rw (p.1, p.2) (elements.element_entry_exit c.args.names.now c.args.table.now.entries c.args.left c.args.weight c.args.sum c.args.name.now v ss _ c.in_err-index.ensures.form)

pub sequences::read_element-returns-in_err-item-clause-value : goal.sequences::read_element-returns-in_err-item-clause-value
sequences::read_element-returns-in_err-item-clause-value t c = λ v ss m s.
    let p = err_from_is_err_and c.from_residual-in_err-item.result c.from_residual-in_err-item.ensures.1 in
    rw (p.1, p.2) (elements.element_item_exit c.args.names.now c.args.table.now.entries c.args.left c.args.weight c.args.sum c.args.name.now v ss _ c.in_ok-index.form.now c.in_ok-index.ensures.form.1 (c.in_err-item.ensures.value v ss m s))

pub sequences::read_element-returns-clause-value : goal.sequences::read_element-returns-clause-value
sequences::read_element-returns-clause-value t c = λ v ss m s.
    elements.element_end c.args.names.now c.args.table.now.entries c.args.left c.args.weight c.args.sum c.args.name.now v ss c.in_ok-index.index c.in_ok-index.form.now _ _ _ c.in_ok-index.ensures.form (c.in_ok-item.ensures.value v ss m s)

pub sequences::read_nodes-returns-in_err-node-clause-value : goal.sequences::read_nodes-returns-in_err-node-clause-value
sequences::read_nodes-returns-in_err-node-clause-value t c = λ ss calls s.
    let p = err_from_is_err_and c.from_residual-in_err-node.result c.from_residual-in_err-node.ensures.1 in
    let f = c.each.invariant.left ss calls s in
    let there = subst (λ l. SpellsShapes l c.each.rest.now f.others) (sym c.language-language.ensures) f.spelled in
    let found = subst (λ l. FindsCall l (Ok c.in_ok-name.field-0) f.others) c.language-language.ensures (c.in_ok-name.ensures.call f.others f.calls there) in
    let k = subst (λ o. FindsCall c.args.table.now.entries.language (Ok o) f.others) c.in-Some.is found in
    rw (p.1, p.2) (elements.node_exit c.args.names.now c.args.table.now.entries c.args.left c.args.weight c.args.sum ss c.each.nodes c.each.total c.each.rest.now f c.in-Some.name.now c.in-Some.variant c.in-Some.inside.now c.in-Some.more.now k _ (c.in_err-node.ensures.value k.mark k.values k.holds k.spelled))

pub sequences::read_nodes-each-preserved : goal.sequences::read_nodes-each-preserved
sequences::read_nodes-each-preserved t c = record {
  small = c.in_ok-node.ensures.small;
  utf8 = subst (λ o. IfSome o (λ p. IsUtf8 p.3.now)) c.in-Some.is c.in_ok-name.ensures.utf8;
  left = λ ss calls s.
      let f = c.each.invariant.left ss calls s in
      let there = subst (λ l. SpellsShapes l c.each.rest.now f.others) (sym c.language-language.ensures) f.spelled in
      let found = subst (λ l. FindsCall l (Ok c.in_ok-name.field-0) f.others) c.language-language.ensures (c.in_ok-name.ensures.call f.others f.calls there) in
      let k = subst (λ o. FindsCall c.args.table.now.entries.language (Ok o) f.others) c.in-Some.is found in
      elements.node_done c.args.names.now c.args.table.now.entries c.args.left c.args.weight c.args.sum ss c.each.nodes c.each.total c.each.rest.now f c.in-Some.name.now c.in-Some.variant c.in-Some.inside.now c.in-Some.more.now k c.in_ok-node.node c.in_ok-node.next c.push.new.self (c.in_ok-node.ensures.value k.mark k.values k.holds k.spelled) c.in_ok-push.ensures.ok;
}

pub sequences::read_nodes-each-smaller : goal.sequences::read_nodes-each-smaller
sequences::read_nodes-each-smaller t c = subst (λ o. IfSome o (λ p. length p.3.now < length c.each.rest.now)) c.in-Some.is c.in_ok-name.ensures.shorter

pub sequences::read_nodes-returns-clause-value : goal.sequences::read_nodes-returns-clause-value
sequences::read_nodes-returns-clause-value t c = λ ss calls s.
    let f = c.each.invariant.left ss calls s in
    let there = subst (λ l. SpellsShapes l c.each.rest.now f.others) (sym c.language-language.ensures) f.spelled in
    let found = subst (λ l. FindsCall l (Ok c.in_ok-name.field-0) f.others) c.language-language.ensures (c.in_ok-name.ensures.call f.others f.calls there) in
    elements.no_nodes_left c.args.names.now c.args.table.now.entries c.args.left c.args.weight c.args.sum ss c.each.nodes c.each.total c.each.rest.now f
    (subst (λ o. FindsCall c.args.table.now.entries.language (Ok o) f.others) c.in_default.is found)
