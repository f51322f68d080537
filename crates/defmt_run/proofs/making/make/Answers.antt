use Rattle.std.proofs.Common.{◌≡◌, ◌∙◌, List, ap, ℕ}
use Rattle.std.proofs.lemmas.Result.{IfOk-weaker}
use Rattle.dl_io.specs.Buffer.{Buffer}
use Rattle.defmt_intern.specs.Table.{Map}
use Rattle.defmt_intern.specs.declared.table.Profile.{Profile}
use Rattle.defmt_print.specs.Printed.{statement_lines}
use Rattle.defmt_run.proofs.Gated.{unrun_gated}
use Rattle.defmt_run.proofs.RunMade.{logs, make_so, unrun_so}
use Rattle.defmt_words.specs.declared.job.ScriptJob.TheVariants.{Terminals, Steer, Table, Print}
use Rattle.elf_section.specs.Written.{written}
use Rattle.elf_table.specs.Listed.{symbols_in}
use Rattle.defmt_run.proofs.making.make.Goals as goal

pub returns-in-Terminals-clause-makes : goal.returns-in-Terminals-clause-makes
returns-in-Terminals-clause-makes g c = make_so c.args.job.now Terminals c.args.script c.making_by_speaking.result c.in-Terminals.is c.making_by_speaking.ensures.makes

pub returns-in-Steer-clause-makes : goal.returns-in-Steer-clause-makes
returns-in-Steer-clause-makes g c = make_so c.args.job.now Steer c.args.script c.making_by_steering.result c.in-Steer.is c.making_by_steering.ensures.makes

pub returns-in-Table-clause-makes : goal.returns-in-Table-clause-makes
returns-in-Table-clause-makes g c =
    let s = c.args.script in
    let table = c.table.result.now in
    let text : List ℕ = written s.settings.profile (symbols_in s.table) in
    let same : written table.profile (symbols_in table.entries) ≡ text =
    ap (λ (entries : Map). written table.profile (symbols_in entries)) c.table.ensures.entries ∙ ap (λ (profile : Profile). written profile (symbols_in s.table)) c.table.ensures.profile in
    make_so c.args.job.now Table s c.without_run.result c.in-Table.is (
    unrun_so Table s text c.write_table-file.result c.without_run.result (λ t items due untold is fine. (untold, is, fine))
    (IfOk-weaker c.write_table-file.result (λ (b : Buffer). b.items ≡ written table.profile (symbols_in table.entries)) (λ (b : Buffer). b.items ≡ text) (λ b is. is ∙ same) c.write_table-file.ensures.bytes)
    c.without_run.ensures)

pub returns-in-Print-clause-makes : goal.returns-in-Print-clause-makes
returns-in-Print-clause-makes g c =
    make_so c.args.job.now Print c.args.script c.without_run-in-Print.result c.in-Print.is (
    unrun_so Print c.args.script (statement_lines c.args.script) c.statement_lines-lines.result c.without_run-in-Print.result (λ t items due untold is fine. (untold, is, fine))
    c.statement_lines-lines.ensures c.without_run-in-Print.ensures)

pub returns-in_default-clause-makes : goal.returns-in_default-clause-makes
returns-in_default-clause-makes g c =
    c.making_by_logging.ensures.makes (logs c.args.job.now c.in_default.not-Terminals c.in_default.not-Steer c.in_default.not-Table c.in_default.not-Print)

pub returns-in-Table-clause-gate : goal.returns-in-Table-clause-gate
returns-in-Table-clause-gate g c = unrun_gated _ _ c.write_table-file.result c.without_run.result c.without_run.ensures

pub returns-in-Print-clause-gate : goal.returns-in-Print-clause-gate
returns-in-Print-clause-gate g c = unrun_gated _ _ c.statement_lines-lines.result c.without_run-in-Print.result c.without_run-in-Print.ensures
