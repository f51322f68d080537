use Rattle.std.proofs.Common.{◌∙◌, List, Option, ap}
use Rattle.defmt_frames.proofs.SiteRows.{grown}
use Rattle.defmt_frames.specs.Sites.{row_at}
use Rattle.defmt_macros.specs.declared.site.Site.{Site}
use Rattle.defmt_frames.proofs.sites.grow.Goals as goal

pub each-preserved : goal.each-preserved
each-preserved c = λ q. ap (λ (rows : List (Option Site)). row_at rows q) c.in_ok-push.ensures.items ∙ grown c.each.rows.items q ∙ c.each.invariant q
