use Rattle.defmt_logger.proofs.Append.{kept_first}
use Rattle.defmt_logger.proofs.Next.{no_counts}
use Rattle.defmt_logger.proofs.desk.Desk.start.Goals as goal

pub invariant_of-result : goal.invariant_of-result
invariant_of-result g c =
    let made = c.in_ok-own.ensures in
    record {
      kept = kept_first c.args.script c.in_ok-own.own.tape (g.U.UpEnd.view c.args.up) made.marks made.room made.end c.requires.fresh c.requires.told;
      sites_are = made.sites;
      counts = no_counts c.in_ok-own.own.tape.marks made.marks;
      pace_is = c.requires.pace;
      message_size = made.message;
      frame_size = made.frame;
    }

pub returns-clause-kept : goal.returns-clause-kept
returns-clause-kept g c =
    let made = c.in_ok-own.ensures in
    kept_first c.args.script c.in_ok-own.own.tape (g.U.UpEnd.view c.args.up) made.marks made.room made.end c.requires.fresh c.requires.told
