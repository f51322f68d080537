use Rattle.std.proofs.Common.{◌≤◌, ◌∙◌, ap, sym, length, ℕ, subst}
use Rattle.std.specs.Prelude.{Option}
use Rattle.defmt_encode.specs.Carry.{message_of, stamp_args}
use Rattle.defmt_encode.specs.Placed.{place_in}
use Rattle.defmt_frames.proofs.Frames.{has_place, sound_at}
use Rattle.defmt_intern.specs.Table.{Map}
use Rattle.defmt_script.specs.Lawful.{stamp_in}
use Rattle.defmt_values.specs.declared.value.Statement.{Statement}
use Rattle.defmt_print.specs.Printed.{carried_message, message_size}
use Rattle.defmt_print.proofs.Sizes.{never_long}
use Rattle.defmt_print.proofs.counts.message_size.Goals as goal

pub returns-in_default-clause-size : goal.returns-in_default-clause-size
unfolding message_size
returns-in_default-clause-size c =
    ap (λ (o : Option Statement). length (carried_message c.args.script.now.table (place_in c.args.script.now.settings.profile 0) (stamp_in c.args.script.now.settings.stamp c.args.mark.now.stamp) o)) c.in_default.ensures

pub message-requires-clause-place : goal.message-requires-clause-place
message-requires-clause-place c =
    has_place c.table-table.result.now.profile c.args.script.now.settings.profile 0 c.first_place-first.result c.table-table.ensures.profile c.first_place-first.ensures

pub unreachable-requires : goal.unreachable-requires
unreachable-requires c =
    let short : length (message_of c.args.script.now.table (place_in c.args.script.now.settings.profile 0) (stamp_args (stamp_in c.args.script.now.settings.stamp c.args.mark.now.stamp)) c.in-Some.statement.now.index c.in-Some.statement.now.args) ≤ 2000 =
    (sound_at c.args.script.now c.args.mark.now.writer c.args.mark.now.place c.in-Some.statement.now c.lawful.ensures (sym c.in-Some.ensures)).short 0 c.args.mark.now.stamp in
    let there : length (message_of c.table-table.result.now.entries c.first_place-first.result (stamp_args c.stamp_in-carried.result) c.in-Some.statement.now.index c.in-Some.statement.now.args) ≤ 2000 =
    subst (λ (m : Map). length (message_of m c.first_place-first.result (stamp_args c.stamp_in-carried.result) c.in-Some.statement.now.index c.in-Some.statement.now.args) ≤ 2000) (sym c.table-table.ensures.entries)
    (subst (λ (p : Option ℕ). length (message_of c.args.script.now.table p (stamp_args c.stamp_in-carried.result) c.in-Some.statement.now.index c.in-Some.statement.now.args) ≤ 2000) (sym c.first_place-first.ensures)
    (subst (λ (o : Option ℕ). length (message_of c.args.script.now.table (place_in c.args.script.now.settings.profile 0) (stamp_args o) c.in-Some.statement.now.index c.in-Some.statement.now.args) ≤ 2000) (sym c.stamp_in-carried.ensures.carried) short)) in
    never_long c.args.buffer.now c.message.new.out (message_of c.table-table.result.now.entries c.first_place-first.result (stamp_args c.stamp_in-carried.result) c.in-Some.statement.now.index c.in-Some.statement.now.args) c.message.result c.in-Err.field-0 c.in-Err.is c.message.ensures there

pub returns-clause-size : goal.returns-clause-size
unfolding message_size
returns-clause-size c =
    c.in-Ok.ensures.length_is
    ∙ ap (λ (m : Map). length (message_of m c.first_place-first.result (stamp_args c.stamp_in-carried.result) c.in-Some.statement.now.index c.in-Some.statement.now.args)) c.table-table.ensures.entries
    ∙ ap (λ (p : Option ℕ). length (message_of c.args.script.now.table p (stamp_args c.stamp_in-carried.result) c.in-Some.statement.now.index c.in-Some.statement.now.args)) c.first_place-first.ensures
    ∙ ap (λ (o : Option ℕ). length (message_of c.args.script.now.table (place_in c.args.script.now.settings.profile 0) (stamp_args o) c.in-Some.statement.now.index c.in-Some.statement.now.args)) c.stamp_in-carried.ensures.carried
    ∙ ap (λ (o : Option Statement). length (carried_message c.args.script.now.table (place_in c.args.script.now.settings.profile 0) (stamp_in c.args.script.now.settings.stamp c.args.mark.now.stamp) o)) c.in-Some.ensures
