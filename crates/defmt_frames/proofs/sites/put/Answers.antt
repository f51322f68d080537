use Rattle.std.proofs.Common.{arith}
use Rattle.defmt_frames.proofs.SiteRows.{row_put}
use Rattle.defmt_frames.proofs.sites.put.Goals as goal

pub returns : goal.returns
returns c = row_put c.args.rows.now.items c.grow.new.rows.items c.args.index c.args.site (omega (arith, c.in_ok-grow.ensures.room)) c.grow.ensures.kept
