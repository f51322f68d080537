use Rattle.std.proofs.Common.{◌∙◌, sym}
use Rattle.std.proofs.lemmas.Result.{err_from_is_err_and}
use Rattle.rtt_dump.specs.Faults.{flawed}
use Rattle.rtt_dump.specs.Flaws.{file_refusal}
use Rattle.rtt_dump.proofs.FlawLemmas.{core_flaw, core_passes, core_refused, handed_on}
use Rattle.rtt_dump.proofs.spans.spans_of.Goals as goal

pub returns-in_err-table-clause-refused : goal.returns-in_err-table-clause-refused
returns-in_err-table-clause-refused c =
    let p = err_from_is_err_and c.from_residual.result c.from_residual.ensures.1 in
    let flaw = c.in_err-table.field-0.0 in
    handed_on c.from_residual.result (file_refusal c.args.file.now c.args.base) p.0 (flawed flaw) p.1 p.2 (core_flaw c.args.file.now c.args.base flaw (sym c.is_elf.ensures ∙ c.if-is_elf.true) c.in_err-table.ensures.flaw)

pub returns-then-is_elf-clause-passes : goal.returns-then-is_elf-clause-passes
returns-then-is_elf-clause-passes c =
    core_passes c.loaded_spans.result c.args.file.now c.args.base (sym c.is_elf.ensures ∙ c.if-is_elf.true) c.in_ok-table.ensures.passes c.loaded_spans.ensures.passes

pub returns-then-is_elf-clause-refused : goal.returns-then-is_elf-clause-refused
returns-then-is_elf-clause-refused c =
    core_refused c.loaded_spans.result c.args.file.now c.args.base (sym c.is_elf.ensures ∙ c.if-is_elf.true) c.in_ok-table.ensures.passes c.loaded_spans.ensures.refused
