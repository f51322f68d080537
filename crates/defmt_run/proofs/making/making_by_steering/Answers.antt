use Rattle.defmt_run.proofs.Gated.{gated_steered}
use Rattle.defmt_run.proofs.RunMade.{makes_so}
use Rattle.defmt_run.specs.Told.{steered_of}
use Rattle.defmt_run.specs.declared.hearing.Heard.{Heard}
use Rattle.defmt_words.specs.declared.job.ScriptJob.TheVariants.{Steer}
use Rattle.defmt_run.proofs.making.making_by_steering.Goals as goal

pub returns-clause-makes : goal.returns-clause-makes
returns-clause-makes g c =
    let run = c.in_ok-run.run' in
    makes_so Steer run.script c.args.script (λ (h : Heard). steered_of run.turns run.settled h.events run.orders)
    c.hear_steered-heard.result c.with_steered.result c.in_ok-run.ensures.script c.hear_steered-heard.ensures c.with_steered.ensures

pub returns-clause-gate : goal.returns-clause-gate
returns-clause-gate g c =
    let run = c.in_ok-run.run' in
    gated_steered _ _ c.args.script run c.hear_steered-heard.result c.with_steered.result c.in_ok-run.ensures.script c.in_ok-run.ensures.run.0 c.in_ok-run.ensures.gate c.with_steered.ensures
