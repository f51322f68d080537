use Rattle.defmt_lines.proofs.SettingLaws.{one_setting}
use Rattle.defmt_lines.proofs.settings.one_setting.Goals as goal

pub returns : goal.returns
returns c = one_setting
