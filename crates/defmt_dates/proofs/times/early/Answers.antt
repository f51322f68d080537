use Rattle.std.proofs.Common.{◌∙◌}
use Rattle.defmt_dates.proofs.TextLaws.{grown, early_is}
use Rattle.defmt_dates.proofs.times.early.Goals as goal

pub returns : goal.returns
returns c =
    let first = rw c.new-text.ensures at c.put.ensures in
    let texts = grown _ _ (grown _ _ (grown _ _ (grown _ _ first c.put-2.ensures) c.put-3.ensures) c.put_fraction.ensures) c.put-4.ensures in
    let d = c.date_after.ensures.date in
    rw (c.day_bytes.ensures, c.time_bytes.ensures) at texts ∙ early_is c.args.seconds _ _ _ c.args.fraction.now d.0 d.1 d.2
