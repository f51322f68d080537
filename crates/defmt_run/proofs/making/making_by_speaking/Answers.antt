use Rattle.std.specs.Prelude.{Some}
use Rattle.defmt_run.proofs.Gated.{gated_run}
use Rattle.defmt_run.proofs.RunMade.{makes_so}
use Rattle.defmt_run.specs.Told.{told_of}
use Rattle.defmt_run.specs.declared.hearing.Heard.{Heard}
use Rattle.defmt_words.specs.declared.job.ScriptJob.TheVariants.{Terminals}
use Rattle.defmt_run.proofs.making.making_by_speaking.Goals as goal

pub returns-clause-makes : goal.returns-clause-makes
returns-clause-makes g c =
    let run = c.in_ok-run.run' in
    let talk = c.in_ok-run.talk in
    makes_so Terminals run.script c.args.script (λ (h : Heard). told_of run.tape run.settled h.events run.looks talk.said (Some talk.settled))
    c.hear_spoken-heard.result c.with_run.result c.in_ok-run.ensures.script c.hear_spoken-heard.ensures c.with_run.ensures

pub returns-clause-gate : goal.returns-clause-gate
returns-clause-gate g c =
    let run = c.in_ok-run.run' in
    let talk = c.in_ok-run.talk in
    gated_run _ _ c.args.script run run.looks talk.said (Some talk.settled) c.hear_spoken-heard.result c.with_run.result c.in_ok-run.ensures.script c.in_ok-run.ensures.run.0 c.in_ok-run.ensures.gate c.with_run.ensures
