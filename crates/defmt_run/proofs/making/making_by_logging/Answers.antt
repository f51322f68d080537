use Rattle.std.proofs.lemmas.Result.{IfOk-weaker}
use Rattle.std.specs.Prelude.{None}
use Rattle.defmt_run.proofs.Gated.{gated_run}
use Rattle.defmt_run.proofs.RunMade.{makes_so}
use Rattle.defmt_run.specs.Making.{Makes, MakesAlone}
use Rattle.defmt_run.specs.Told.{told_of}
use Rattle.defmt_run.specs.declared.hearing.Heard.{Heard}
use Rattle.defmt_run.proofs.making.making_by_logging.Goals as goal

pub returns-clause-makes : goal.returns-clause-makes
returns-clause-makes g c = λ logged.
    let run = c.in_ok-run.run' in
    makes_so c.args.job.now run.script c.args.script (λ (h : Heard). told_of run.tape run.settled h.events run.looks c.new.result None)
    c.hear_run-heard.result c.with_run.result c.in_ok-run.ensures.script
    (IfOk-weaker c.hear_run-heard.result (λ (h : Heard). MakesAlone c.args.job.now run h.events h.output.items h.fault)
    (λ (h : Heard). Makes c.args.job.now run.script (told_of run.tape run.settled h.events run.looks c.new.result None) h.output.items h.fault)
    (λ h makes. makes c.new.result (c.new.ensures.words, c.new.ensures.no_end)) (c.hear_run-heard.ensures logged)) c.with_run.ensures

pub returns-clause-gate : goal.returns-clause-gate
returns-clause-gate g c =
    let run = c.in_ok-run.run' in
    gated_run _ _ c.args.script run run.looks c.new.result None c.hear_run-heard.result c.with_run.result c.in_ok-run.ensures.script c.in_ok-run.ensures.run.0 c.in_ok-run.ensures.gate c.with_run.ensures
