use Rattle.std.proofs.Common.{◌∙◌, sym, ap, is_some}
use Rattle.defmt_frames.proofs.SiteLaws.{more_keeps, more_own, more_there}
use Rattle.defmt_frames.proofs.SiteRows.{copied_some}
use Rattle.defmt_frames.proofs.sites.Sites.add.Goals as goal

pub returns-then-is_some-clause-there : goal.returns-then-is_some-clause-there
returns-then-is_some-clause-there c = ap is_some (sym c.get.ensures) ∙ copied_some c.get.result ∙ (sym c.is_some.ensures ∙ c.if-is_some.true)

pub returns-clause-own : goal.returns-clause-own
returns-clause-own c = more_own c.args.self.now (record { rows = c.put.new.rows }) c.args.index c.in_ok-site.site c.in_ok-put.ensures c.args.table.now.entries c.requires.own c.in_ok-site.ensures

pub returns-clause-kept : goal.returns-clause-kept
returns-clause-kept c = more_keeps c.args.self.now (record { rows = c.put.new.rows }) c.args.index c.in_ok-site.site c.in_ok-put.ensures

pub returns-clause-there : goal.returns-clause-there
returns-clause-there c = more_there c.args.self.now (record { rows = c.put.new.rows }) c.args.index c.in_ok-site.site c.in_ok-put.ensures
