use Rattle.std.proofs.Common.{◌≡◌, refl, Ok, Err, subst, sym}
use Rattle.std.specs.Prelude.{IfOk, Result}
use Rattle.defmt_run.specs.Making.{IsWordSteered}
use Rattle.defmt_script.specs.Script.{Script}
use Rattle.defmt_steer.specs.Steers.{IsSteeredRun}
use Rattle.defmt_steer.specs.declared.steer_run.SteeredRun.{SteeredRun}
use Rattle.rtt_ring.specs.declared.settled.RingKind.TheVariants.{Word}
use Rattle.defmt_run.proofs.Gated.{gates_so}
use Rattle.defmt_run.proofs.logging.steer.Goals as goal

of_itself : {E : Type 0} (s : Script) (answer : Result SteeredRun E) → IfOk answer (λ (r : SteeredRun). r.script ≡ s)
    → IfOk answer (λ (r : SteeredRun). IsSteeredRun s r.turns r.settled r.captured.items r.rest.items r.orders r.unheard.items)
    → IfOk answer (λ (r : SteeredRun). (r.settled.ring ≡ Word) × (r.orders.ring ≡ Word)) → IfOk answer (λ (r : SteeredRun). IsWordSteered r)
of_itself s (Ok r) is run rings =
    (subst (λ (x : Script). IsSteeredRun x r.turns r.settled r.captured.items r.rest.items r.orders r.unheard.items) (sym is) run, rings.0, rings.1)
of_itself s (Err fault) is run rings = tt

pub run_steered-requires-clause-tells : goal.run_steered-requires-clause-tells
run_steered-requires-clause-tells g c κs within = refl

pub returns-clause-run : goal.returns-clause-run
returns-clause-run g c = of_itself c.args.script c.run_steered.result c.run_steered.ensures.script c.run_steered.ensures.run c.run_steered.ensures.rings

pub returns-clause-gate : goal.returns-clause-gate
returns-clause-gate g c = gates_so _ _ c.args.script (λ r. r.captured.items) c.run_steered.result c.run_steered.ensures.asked c.run_steered.ensures.told
