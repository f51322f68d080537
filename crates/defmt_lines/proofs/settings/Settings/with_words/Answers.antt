use Rattle.std.proofs.Common.{Result, subst, sym}
use Rattle.defmt_lines.specs.LineView.{words_view}
use Rattle.defmt_lines.specs.Settings.{Sets}
use Rattle.defmt_lines.specs.declared.cause.Cause.{Cause}
use Rattle.defmt_lines.specs.declared.settings.Settings.{Settings}
use Rattle.defmt_lines.proofs.SettingLaws.{set_found}
use Rattle.defmt_lines.proofs.settings.Settings.with_words.Goals as goal

pub returns : goal.returns
returns c =
    subst (λ (set : Result Settings Cause). Sets c.args.form (words_view c.args.words) c.args.self.now set) (sym c.by_words.ensures)
    (set_found c.args.form (words_view c.args.words) c.args.self.now)
