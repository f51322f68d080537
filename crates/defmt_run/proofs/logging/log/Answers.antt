use Rattle.std.proofs.Common.{◌≡◌, inr, refl, Ok, Err, subst, sym}
use Rattle.std.specs.Prelude.{true, false, IfOk, Result}
use Rattle.defmt_run.specs.Making.{IsWordRun}
use Rattle.defmt_script.specs.Script.{Script}
use Rattle.defmt_writers.specs.Runs.{IsRun}
use Rattle.defmt_writers.specs.declared.script_run.Run.{Run}
use Rattle.rtt_ring.specs.declared.settled.RingKind.TheVariants.{Word}
use Rattle.defmt_run.proofs.Gated.{gates_so}
use Rattle.defmt_run.proofs.logging.log.Goals as goal

of_itself : {E : Type 0} (s : Script) (answer : Result Run E) → IfOk answer (λ (r : Run). r.script ≡ s) → IfOk answer (λ (r : Run). IsRun s r.tape r.settled r.captured.items r.rest.items r.looks)
    → IfOk answer (λ (r : Run). r.settled.ring ≡ Word) → IfOk answer (λ (r : Run). true ≡ true → s.settings.late ≡ false → r.settled.got ≡ r.settled.sent) → IfOk answer (λ (r : Run). IsWordRun r)
of_itself s (Ok r) is run ring taken = (subst (λ (x : Script). IsRun x r.tape r.settled r.captured.items r.rest.items r.looks) (sym is) run, ring, subst (λ (x : Script). x.settings.late ≡ false → r.settled.got ≡ r.settled.sent) (sym is) (taken refl))
of_itself s (Err fault) is run ring taken = tt

pub run_script-requires-clause-fits : goal.run_script-requires-clause-fits
run_script-requires-clause-fits g c κs within = inr refl

pub returns-clause-run : goal.returns-clause-run
returns-clause-run g c = of_itself c.args.script c.run_script.result c.run_script.ensures.script c.run_script.ensures.run c.run_script.ensures.ring c.run_script.ensures.taken

pub returns-clause-gate : goal.returns-clause-gate
returns-clause-gate g c = gates_so _ _ c.args.script (λ r. r.captured.items) c.run_script.result c.run_script.ensures.asked c.run_script.ensures.told
