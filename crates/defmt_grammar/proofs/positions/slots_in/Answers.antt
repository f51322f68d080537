use Rattle.std.proofs.Common.{Some, None, ap, ◌∙◌}
use Rattle.std.proofs.lemmas.Option.{slice_get-get_or}
use Rattle.defmt_grammar.specs.Positions.{held_slot, count_of}
use Rattle.defmt_grammar.proofs.Fronts.{front_more, front_done, front_over}
use Rattle.defmt_grammar.proofs.positions.slots_in.Goals as goal

pub slot_for-requires : goal.slot_for-requires
slot_for-requires c = c.requires c.entries.entry-index c.in-Some.held (slice_get-get_or c.args.table.now c.entries.entry-index None c.entries-test.true ∙ ap Some c.in-Some.is)

pub returns-in-None : goal.returns-in-None
returns-in-None c =
    let there = slice_get-get_or c.args.table.now c.entries.entry-index None c.entries-test.true ∙ ap Some c.in-None.is in
    record {
      slots = front_done _ held_slot c.args.table.now c.entries.entry-index _ _ there c.entries.invariant.slots;
      counts = front_done _ count_of c.args.table.now c.entries.entry-index _ _ there c.entries.invariant.counts;
    }

pub entries-preserved : goal.entries-preserved
entries-preserved c =
    let there = slice_get-get_or c.args.table.now c.entries.entry-index None c.entries-test.true ∙ ap Some c.in-Some.is in
    rw (c.in_ok-push-in-Some.ensures.items, c.in_ok-push-in-Some-2.ensures.items, c.slot_for.ensures) (record {
      slots = front_more _ held_slot c.args.table.now c.entries.entry-index _ _ c.in-Some.held there c.entries.invariant.slots;
      counts = front_more _ count_of c.args.table.now c.entries.entry-index _ _ c.in-Some.held there c.entries.invariant.counts;
    })

pub returns : goal.returns
returns c = record {
  slots = front_over _ held_slot c.args.table.now c.entries.entry-index _ _ c.entries-test.false c.entries.invariant.slots;
  counts = front_over _ count_of c.args.table.now c.entries.entry-index _ _ c.entries-test.false c.entries.invariant.counts;
}
