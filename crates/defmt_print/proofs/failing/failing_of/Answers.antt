use Rattle.std.proofs.Common.{◌∙◌, ◌&&◌, ap, Bool, sym}
use Rattle.std.specs.Prelude.{if◌then◌else◌}
use Rattle.defmt_intern.specs.Table.{Map}
use Rattle.defmt_print.proofs.Grouped.{failing_whole}
use Rattle.defmt_recording.specs.Styled.{level_at, prints_index, reaches}
use Rattle.defmt_print.proofs.failing.failing_of.Goals as goal

pub returns-in-Some-clause-count : goal.returns-in-Some-clause-count
returns-in-Some-clause-count c = λ number.
    let style = c.args.style.now in
    let index = c.in-Some.statement.now.index in
    c.one_if.ensures.count ∙ ap (λ (b : Bool). if b then 1 else 0) c.fails_at.ensures
    ∙ ap (λ (t : Map). if prints_index style.only t index && reaches style.fail_on (level_at t index) then 1 else 0) c.table.ensures.entries
    ∙ failing_whole style c.args.script.now number c.args.mark.now c.in-Some.statement.now c.in-Whole.is (sym c.in-Some.ensures)
