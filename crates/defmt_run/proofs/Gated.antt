-- What the gate of a run was asked and told.
use Rattle.std.proofs.Common.{◌≡◌, ◌<◌, ◌≤◌, ℕ, List, Result, Ok, Err, IfOk, refl, sym, subst, length}
use Rattle.std.specs.Prelude.{IfSome, None, Option}
use Rattle.defmt_decode.specs.declared.event.Event.{Event}
use Rattle.defmt_frames.specs.Frames.{count}
use Rattle.defmt_logger.specs.Tape.{marks_of}
use Rattle.defmt_logger.specs.declared.mark.Mark.{Mark}
use Rattle.defmt_run.specs.Told.{GatesRun, IsGated, IsUntold, Told, steered_of, told, told_of}
use Rattle.defmt_run.specs.declared.hearing.Heard.{Heard}
use Rattle.defmt_run.specs.declared.making.Making.{Making}
use Rattle.defmt_script.specs.Script.{Script}
use Rattle.defmt_steer.specs.Steers.{IsSteeredRun}
use Rattle.defmt_steer.specs.declared.steer_run.SteeredRun.{SteeredRun}
use Rattle.defmt_writers.specs.Runs.{IsRun}
use Rattle.defmt_writers.specs.declared.script_run.Run.{Run}
use Rattle.defmt_recording.specs.declared.fault.Fault.TheVariants.{Fine}
use Rattle.dl_io.specs.Buffer.{Buffer}
use Rattle.rtt_booth.specs.Kept.{Reel as Said}
use Rattle.rtt_down.specs.Steered.{turns_of}
use Rattle.rtt_down.specs.declared.turn.Turn.{Turn}
use Rattle.rtt_ring.specs.Account.{Account}
use Rattle.writer_threads.proofs.Passed.{passed_none}
use Rattle.writer_threads.specs.Passing.{WasPassed, WasTold}

module _ (passed : ℕ → ℕ → Type 0) (shown : ℕ → Type 0) where
  -- a run's answer, by what stands of it
  pub gates_so : (s : Script) {R E : Type 0} (captured : R → List ℕ) (answer : Result R E) → IfOk answer (λ r. (w : ℕ) → w < 8 → WasPassed (passed w) 0 (count s w))
      → IfOk answer (λ r. WasTold shown 0 (length (captured r))) → IfOk answer (λ r. GatesRun passed shown s (captured r))
  gates_so s captured (Ok r) asked totals = record { asked = asked; totals = totals }
  gates_so s captured (Err e) asked totals = tt

  pub untold_gated : (t : Told) → IsUntold t → IsGated passed shown t
  untold_gated t untold = record {
    asked = λ w lt. subst (λ (tape : List Mark). WasPassed (passed w) 0 (marks_of w tape)) (sym untold.tape) (passed_none (passed w) 0 0 refl);
    asked_turns = λ w lt. subst (λ (turns : List Turn). WasPassed (passed w) 0 (turns_of w turns)) (sym untold.turns) (passed_none (passed w) 0 0 refl);
    totals = subst (λ (settled : Option Account). IfSome settled (λ account. WasTold shown 0 (length account.got))) (sym untold.settled) tt;
  }

  pub unrun_gated : {E F : Type 0} (output : Result Buffer E) (made : Result Making F) → IfOk made (λ (m : Making). IsUntold (told m.outcome) × (output ≡ Ok m.output) × (m.outcome.fault ≡ Fine))
      → IfOk made (λ (m : Making). IsGated passed shown (told m.outcome))
  unrun_gated output (Ok m) made = untold_gated (told m.outcome) made.0
  unrun_gated output (Err e) made = tt

  run_gated : (s : Script) (run : Run) (events : List Event) (looks : ℕ) (said : Said) (term : Option Account) → IsRun s run.tape run.settled run.captured.items run.rest.items run.looks
      → GatesRun passed shown s run.captured.items → IsGated passed shown (told_of run.tape run.settled events looks said term)
  run_gated s run events looks said term is gates = record {
    asked = λ w lt. subst (λ (n : ℕ). WasPassed (passed w) 0 n) (sym (is.all w lt)) (gates.asked w lt);
    asked_turns = λ w lt. passed_none (passed w) 0 0 refl;
    totals = subst (λ (got : List ℕ). WasTold shown 0 (length got)) (sym is.takes) gates.totals;
  }

  steered_gated : (s : Script) (run : SteeredRun) (events : List Event)
      → IsSteeredRun s run.turns run.settled run.captured.items run.rest.items run.orders run.unheard.items
      → GatesRun passed shown s run.captured.items → IsGated passed shown (steered_of run.turns run.settled events run.orders)
  steered_gated s run events is gates = record {
    asked = λ w lt. passed_none (passed w) 0 0 refl;
    asked_turns = λ w lt. subst (λ (n : ℕ). WasPassed (passed w) 0 n) (sym (is.all w lt)) (gates.asked w lt);
    totals = subst (λ (got : List ℕ). WasTold shown 0 (length got)) (sym is.takes) gates.totals;
  }

  -- what was heard of a run, whose script is this one
  pub gated_run : {E F : Type 0} (s : Script) (run : Run) (looks : ℕ) (said : Said) (term : Option Account) (heard : Result Heard E) (made : Result Making F) → run.script ≡ s
      → IsRun run.script run.tape run.settled run.captured.items run.rest.items run.looks → GatesRun passed shown s run.captured.items
      → IfOk made (λ (m : Making). (h : Heard) × (heard ≡ Ok h) × (m.output.items ≡ h.output.items) × (told m.outcome ≡ told_of run.tape run.settled h.events looks said term) × (m.outcome.fault ≡ h.fault))
      → IfOk made (λ (m : Making). IsGated passed shown (told m.outcome))
  gated_run s run looks said term heard (Ok m) same is gates made =
      subst (λ (t : Told). IsGated passed shown t) (sym made.3)
      (run_gated run.script run made.0.events looks said term is (subst (λ (x : Script). GatesRun passed shown x run.captured.items) (sym same) gates))
  gated_run s run looks said term heard (Err e) same is gates made = tt

  pub gated_steered : {E F : Type 0} (s : Script) (run : SteeredRun) (heard : Result Heard E) (made : Result Making F) → run.script ≡ s
      → IsSteeredRun run.script run.turns run.settled run.captured.items run.rest.items run.orders run.unheard.items → GatesRun passed shown s run.captured.items
      → IfOk made (λ (m : Making). (h : Heard) × (heard ≡ Ok h) × (m.output.items ≡ h.output.items) × (told m.outcome ≡ steered_of run.turns run.settled h.events run.orders) × (m.outcome.fault ≡ h.fault))
      → IfOk made (λ (m : Making). IsGated passed shown (told m.outcome))
  gated_steered s run heard (Ok m) same is gates made =
      subst (λ (t : Told). IsGated passed shown t) (sym made.3)
      (steered_gated run.script run made.0.events is (subst (λ (x : Script). GatesRun passed shown x run.captured.items) (sym same) gates))
  gated_steered s run heard (Err e) same is gates made = tt
