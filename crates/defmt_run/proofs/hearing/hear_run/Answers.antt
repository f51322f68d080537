use Rattle.defmt_run.proofs.RunMade.{alone_so, counts_else}
use Rattle.defmt_words.specs.declared.job.ScriptJob.TheVariants.{Run, Record}
use Rattle.defmt_run.proofs.hearing.hear_run.Goals as goal

pub returns-in-Run : goal.returns-in-Run
returns-in-Run c = λ logged. alone_so c.args.job.now (Run c.in-Run.options) c.args.run.now c.lines_of_run.result c.in-Run.is c.lines_of_run.ensures

pub returns-in-Record : goal.returns-in-Record
returns-in-Record c = λ logged. alone_so c.args.job.now Record c.args.run.now c.stream_of_run.result c.in-Record.is c.stream_of_run.ensures

pub returns-in_default : goal.returns-in_default
returns-in_default c = λ logged.
    counts_else c.args.job.now c.args.run.now c.counts_of_run.result c.in_default.not-Run c.in_default.not-Record logged c.counts_of_run.ensures
