use Rattle.std.proofs.Common.{◌∙◌}
use Rattle.rtt_down.proofs.Cutting.{heard_newline, heard_other}
use Rattle.rtt_down.proofs.ear.Ear.hear.Goals as goal

pub returns-then-byte-eq10-clause-heard : goal.returns-then-byte-eq10-clause-heard
returns-then-byte-eq10-clause-heard c heard e = heard_newline heard c.args.byte _ c.level_in-level.result c.if-byte-eq10.true (c.self.view_is ∙ e) c.level_in-level.ensures

pub returns-clause-heard : goal.returns-clause-heard
returns-clause-heard c heard e = heard_other heard c.args.byte _ _ c.if-byte-eq10.false (c.self.view_is ∙ e) c.longer-self-inside.ensures
