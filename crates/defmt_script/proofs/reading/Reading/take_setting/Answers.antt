use Rattle.std.proofs.Common.{Result, ap, subst, ◌∙◌}
use Rattle.defmt_lines.specs.Form.{in_order}
use Rattle.defmt_lines.specs.LineView.{words_view}
use Rattle.defmt_lines.specs.Settings.{Sets}
use Rattle.defmt_lines.specs.declared.cause.Cause.{Cause}
use Rattle.defmt_lines.specs.declared.settings.Settings.{Settings}
use Rattle.defmt_script.proofs.ReadingLaws.{set_becomes}
use Rattle.defmt_script.proofs.Settled.{stays}
use Rattle.defmt_script.specs.State.{State}
use Rattle.defmt_script.specs.Steady.{StaysLawful}
use Rattle.defmt_script.proofs.reading.Reading.take_setting.Goals as goal

pub set-requires : goal.set-requires
set-requires c = λ s is order. subst (λ (v : State). StaysLawful c.args.form v.script.settings s) c.self.view_is (stays c.self.inside.first c.args.form (words_view c.args.words) c.self.inside.settings s c.self.invariant.steady.settings c.self.invariant.steady.not_late
    (subst (λ (r : Result Settings Cause). Sets c.args.form (words_view c.args.words) c.self.inside.settings r) is c.with_words-settings.ensures)
    (ap (λ (v : State). in_order v.first c.args.form) c.self.view_is ∙ order))

pub returns : goal.returns
returns c =
    let given = subst (λ (v : State). Sets c.args.form (words_view c.args.words) v.script.settings c.with_words-settings.result) c.self.view_is c.with_words-settings.ensures in
    set_becomes c.args.self.now c.args.form (words_view c.args.words) c.with_words-settings.result given c.set.result c.set.new.self c.set.ensures
