use Rattle.std.proofs.Common.{◌≡◌, ◌++◌, ◌∙◌, ℕ, List, ap, subst, sym}
use Rattle.std.proofs.lemmas.List.{append-nil}
use Rattle.std.specs.Prelude.{OnOk, Option}
use Rattle.defmt_encode.specs.Carry.{stamp_args}
use Rattle.defmt_frames.proofs.Frames.{sound_at}
use Rattle.defmt_intern.specs.Table.{Map}
use Rattle.defmt_recording.specs.Output.{ended}
use Rattle.defmt_recording.specs.Styled.{prints_index}
use Rattle.defmt_script.specs.Script.{statements_by}
use Rattle.defmt_print.proofs.Marked.{none_shown, one_shown}
use Rattle.defmt_print.proofs.Marks.{is_there}
use Rattle.defmt_print.proofs.Stamped.{prints}
use Rattle.defmt_print.specs.Parted.{parted_text}
use Rattle.defmt_print.proofs.mark_lines.add_mark_line.Goals as goal

pub unreachable-requires : goal.unreachable-requires
unreachable-requires c = is_there (statements_by c.args.script.now c.args.mark.now.writer) c.args.mark.now.place c.requires c.in_default.ensures

pub told_size-bytes-requires : goal.told_size-bytes-requires
told_size-bytes-requires c = sound_at c.args.script.now c.args.mark.now.writer c.args.mark.now.place c.in-Some.statement.now c.lawful.ensures (sym c.in-Some.ensures)

pub add_parted-requires : goal.add_parted-requires
add_parted-requires c =
    prints (record { fits = c.stamps_fit.ensures.fits; narrow = c.stamps_fit.ensures.narrow }) c.args.script.now c.lawful.ensures c.table-table.result.now.entries c.args.mark.now.stamp c.stamp_in-carried.result c.in-Some.statement.now
    c.table-table.ensures.entries c.stamp_in-carried.ensures.carried c.stamp_in-carried.ensures.small
    (sound_at c.args.script.now c.args.mark.now.writer c.args.mark.now.place c.in-Some.statement.now c.lawful.ensures (sym c.in-Some.ensures))

pub returns-then-not-prints_index : goal.returns-then-not-prints_index
returns-then-not-prints_index c =
    let s = c.args.script.now in
    let stm = c.in-Some.statement.now in
    let told = c.prints_index.ensures ∙ ap (λ (t : Map). prints_index c.args.style.now.only t stm.index) c.table-table.ensures.entries in
    sym (append-nil c.args.out.now.items)
    ∙ ap (λ (l : List ℕ). c.args.out.now.items ++ l) (none_shown c.args.style.now s c.args.number c.args.mark.now stm (sym c.in-Some.ensures) (sym told ∙ c.if-not-prints_index.true))

pub returns : goal.returns
returns c =
    let s = c.args.script.now in
    let stm = c.in-Some.statement.now in
    let style = c.args.style.now in
    let told = c.prints_index.ensures ∙ ap (λ (t : Map). prints_index c.args.style.now.only t stm.index) c.table-table.ensures.entries in
    let line = ap (λ (t : Map). ended (parted_text style t c.told_size-bytes.result (stamp_args c.stamp_in-carried.result) stm)) c.table-table.ensures.entries
    ∙ ap (λ (o : Option ℕ). ended (parted_text style s.table c.told_size-bytes.result (stamp_args o) stm)) c.stamp_in-carried.ensures.carried
    ∙ one_shown c.args.style.now s c.args.number c.args.mark.now stm (sym c.in-Some.ensures) c.told_size-bytes.result (sym told ∙ c.if-not-prints_index.false) c.told_size-bytes.ensures in
    subst (λ (l : List ℕ). OnOk c.add_parted.result (c.add_parted.new.out.items ≡ c.args.out.now.items ++ l)) line c.add_parted.ensures
