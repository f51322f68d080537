use Rattle.std.proofs.Common.{◌≡◌, inr, refl, Ok, Err, subst, sym}
use Rattle.std.specs.Prelude.{true, false, IfOk, Result}
use Rattle.defmt_run.specs.Making.{IsWordRun, IsWordTalk}
use Rattle.defmt_script.specs.Script.{Script}
use Rattle.defmt_writers.specs.Runs.{IsRun}
use Rattle.defmt_talk.specs.Talks.{IsTalk}
use Rattle.defmt_writers.specs.declared.script_run.Run.{Run}
use Rattle.defmt_talk.specs.declared.talk_run.Talk.{Talk}
use Rattle.rtt_ring.specs.declared.settled.RingKind.TheVariants.{Word}
use Rattle.defmt_run.proofs.Gated.{gates_so}
use Rattle.defmt_run.proofs.logging.speak.Goals as goal

run_of_itself : {E : Type 0} (s : Script) (answer : Result (Run × Talk) E) → IfOk answer (λ (r : Run × Talk). r.0.script ≡ s)
    → IfOk answer (λ (r : Run × Talk). IsRun s r.0.tape r.0.settled r.0.captured.items r.0.rest.items r.0.looks)
    → IfOk answer (λ (r : Run × Talk). (r.0.settled.ring ≡ Word) × (r.1.settled.ring ≡ Word)) → IfOk answer (λ (r : Run × Talk). true ≡ true → s.settings.late ≡ false → r.0.settled.got ≡ r.0.settled.sent) → IfOk answer (λ (r : Run × Talk). IsWordRun r.0)
run_of_itself s (Ok r) is run rings taken = (subst (λ (x : Script). IsRun x r.0.tape r.0.settled r.0.captured.items r.0.rest.items r.0.looks) (sym is) run, rings.0, subst (λ (x : Script). x.settings.late ≡ false → r.0.settled.got ≡ r.0.settled.sent) (sym is) (taken refl))
run_of_itself s (Err fault) is run rings taken = tt

talk_of_itself : {E : Type 0} (s : Script) (answer : Result (Run × Talk) E) → IfOk answer (λ (r : Run × Talk). r.0.script ≡ s)
    → IfOk answer (λ (r : Run × Talk). IsTalk s.said r.1.said r.1.settled r.1.captured.items r.1.rest.items)
    → IfOk answer (λ (r : Run × Talk). (r.0.settled.ring ≡ Word) × (r.1.settled.ring ≡ Word)) → IfOk answer (λ (r : Run × Talk). true ≡ true → r.1.settled.got ≡ r.1.settled.sent) → IfOk answer (λ (r : Run × Talk). IsWordTalk r.0 r.1)
talk_of_itself s (Ok r) is talk rings taken = (subst (λ (x : Script). IsTalk x.said r.1.said r.1.settled r.1.captured.items r.1.rest.items) (sym is) talk, rings.1, taken refl)
talk_of_itself s (Err fault) is talk rings taken = tt

pub run_terminals-requires-clause-fits : goal.run_terminals-requires-clause-fits
run_terminals-requires-clause-fits g c κs within = inr refl

pub returns-clause-run : goal.returns-clause-run
returns-clause-run g c = run_of_itself c.args.script c.run_terminals.result c.run_terminals.ensures.script c.run_terminals.ensures.run c.run_terminals.ensures.rings c.run_terminals.ensures.taken

pub returns-clause-talk : goal.returns-clause-talk
returns-clause-talk g c = talk_of_itself c.args.script c.run_terminals.result c.run_terminals.ensures.script c.run_terminals.ensures.talk c.run_terminals.ensures.rings c.run_terminals.ensures.texts_taken

pub returns-clause-gate : goal.returns-clause-gate
returns-clause-gate g c = gates_so _ _ c.args.script (λ r. r.0.captured.items) c.run_terminals.result c.run_terminals.ensures.asked c.run_terminals.ensures.told
