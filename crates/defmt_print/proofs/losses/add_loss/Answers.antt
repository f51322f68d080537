use Rattle.std.proofs.Common.{◌≡◌, ◌++◌, subst, sym}
use Rattle.std.specs.Prelude.{OnOk}
use Rattle.rtt_modes.specs.declared.fate.Fate.{Fate}
use Rattle.defmt_print.specs.Losses.{loss_by, loss_line}
use Rattle.defmt_print.proofs.losses.add_loss.Goals as goal

pub returns-in-Dropped : goal.returns-in-Dropped
unfolding loss_line
returns-in-Dropped c =
    subst (λ (f : Fate). OnOk c.add_report.result (c.add_report.new.out.items ≡ c.args.out.now.items ++ loss_by c.args.form f c.args.mark.now.writer c.args.mark.now.place))
    (sym c.in-Dropped.is) c.add_report.ensures

pub returns-in-Cut : goal.returns-in-Cut
unfolding loss_line
returns-in-Cut c =
    subst (λ (f : Fate). OnOk c.add_report-in-Cut.result (c.add_report-in-Cut.new.out.items ≡ c.args.out.now.items ++ loss_by c.args.form f c.args.mark.now.writer c.args.mark.now.place))
    (sym c.in-Cut.is) c.add_report-in-Cut.ensures
