use Rattle.std.proofs.Common.{inr, refl, subst, sym}
use Rattle.defmt_recording.specs.declared.fault.Fault.TheVariants.{Script}
use Rattle.defmt_run.specs.Running.{StopsFor}
use Rattle.defmt_words.specs.declared.job.ScriptJob.{ScriptJob}
use Rattle.defmt_run.proofs.running.suited_script.Goals as goal

pub returns-in-Some-clause-stops : goal.returns-in-Some-clause-stops
returns-in-Some-clause-stops c =
    let some = c.in-Some.ensures.some in
    subst (λ (job : ScriptJob). StopsFor job c.args.text.now (Script c.in-Some.line 18 0)) (sym some.0)
    (inr (refl, refl, (c.in_ok-script.script, c.in_ok-script.ensures.spelled, some.1, some.2)))
