use Rattle.std.proofs.Common.{refl}
use Rattle.defmt_print.proofs.Marks.{few_marks}
use Rattle.defmt_run.proofs.RunMade.{alone}
use Rattle.defmt_run.proofs.hearing.counts_of_run.Goals as goal

pub summary-requires : goal.summary-requires
summary-requires c = few_marks c.args.run.now.script c.args.run.now.tape.marks c.lawful.ensures c.requires.0.lawful

pub returns : goal.returns
returns c = λ count said silent.
    let run = c.args.run.now in (
      alone run.script run.tape run.settled run.captured.items run.rest.items run.looks c.requires.0 c.requires.1 c.requires.2
          c.in_ok-events.events said c.in_ok-events.ensures.events c.in_ok-events.ensures.lines c.in_ok-events.ensures.gaps silent,
      c.in_ok-output.ensures,
      refl,
    )
