-- What a run comes to.
use Rattle.std.proofs.Common.{◌≡◌, ◌++◌, ℕ, List, [], refl, sym, ap, subst, ◌∙◌}
use Rattle.std.specs.Prelude.{false, Err, IfOk, None, Ok, Option, Result, Some}
use Rattle.defmt_decode.specs.Event.{events_of}
use Rattle.defmt_decode.specs.declared.event.Event.{Event}
use Rattle.defmt_logger.specs.Kept.{Reel as Tape}
use Rattle.defmt_run.specs.Making.{IsLogged, Makes, MakesAlone, RanAlone, RanHeard, RanUnheard}
use Rattle.defmt_print.specs.Heard.{GapsIn, LinesIn, catalog_of}
use Rattle.defmt_run.specs.Told.{IsUntold, Ran, Spoke, Told, told, told_of}
use Rattle.defmt_recording.specs.declared.fault.Fault.{Fault}
use Rattle.defmt_recording.specs.declared.fault.Fault.TheVariants.{Fine}
use Rattle.defmt_run.specs.declared.hearing.Heard.{Heard}
use Rattle.defmt_run.specs.declared.making.Making.{Making}
use Rattle.defmt_script.specs.Script.{Script}
use Rattle.defmt_words.specs.declared.job.RunOptions.{RunOptions}
use Rattle.defmt_words.specs.declared.job.ScriptJob.{ScriptJob}
use Rattle.defmt_words.specs.declared.job.ScriptJob.TheVariants.{Run, Record, Terminals, Steer, Table, Print, Generate}
use Rattle.defmt_writers.specs.Runs.{IsRun}
use Rattle.defmt_writers.specs.declared.script_run.Run.{Run as ScriptRun}
use Rattle.dl_io.specs.Buffer.{Buffer}
use Rattle.defmt_talk.specs.Talks.{IsTalk}
use Rattle.rtt_booth.specs.Kept.{Reel as Said}
use Rattle.rtt_ring.specs.Account.{Account}
use Rattle.rtt_ring.specs.declared.settled.RingKind.TheVariants.{Word}

module _ (s : Script) (tape : Tape) (account : Account) (captured rest : List ℕ) (looks : ℕ) (run : IsRun s tape account captured rest looks) (ring : account.ring ≡ Word)
    (taken : s.settings.late ≡ false → account.got ≡ account.sent) where
  logged : (events : List Event) (said : Said) (term : Option Account) → Ran s account (told_of tape account events looks said term)
  logged events said term = record {
    settled = refl;
    ring = ring;
    lawful = run.lawful;
    all = run.all;
    sent = run.sends;
    got = (rest, run.whole ∙ ap (λ (l : List ℕ). l ++ rest) (sym run.takes));
    reach = run.reach;
    late = run.late;
    looks = run.looked;
    taken = taken;
    split = run.split;
    counted = run.counted;
    rooms = run.rooms;
  }

  pub heard : (events : List Event) (said : Said) (term : Option Account) → events ≡ events_of (catalog_of s) account.sent → LinesIn s.settings.mode s tape.marks events
      → GapsIn s.settings.mode s.settings.profile s tape.marks events → RanHeard s (told_of tape account events looks said term)
  heard events said term is lines gaps =
      (account, logged events said term, record { events = is; lines = lines; gaps = gaps }, record { turns = refl; orders = refl; rings = refl })

  pub alone : (events : List Event) (said : Said) → events ≡ events_of (catalog_of s) account.sent → LinesIn s.settings.mode s tape.marks events
      → GapsIn s.settings.mode s.settings.profile s tape.marks events → (said.words ≡ []) × (said.split ≡ []) → RanAlone s (told_of tape account events looks said None)
  alone events said is lines gaps none = (heard events said None is lines gaps, record { said = none.0; term = refl; spoken = none.1 })

  pub unheard : (events : List Event) (said : Said) → events ≡ [] → (said.words ≡ []) × (said.split ≡ []) → RanUnheard s (told_of tape account events looks said None)
  unheard events said none silent =
      (account, logged events said None, none, record { said = silent.0; term = refl; spoken = silent.1 }, record { turns = refl; orders = refl; rings = refl })

  pub spoke : (events : List Event) (said : Said) (term : Account) (got left : List ℕ) → IsTalk s.said said term got left → term.ring ≡ Word
      → term.got ≡ term.sent → Spoke s term (told_of tape account events looks said (Some term))
  spoke events said term got left talk kind all_taken = record {
    term = refl;
    ring = kind;
    lawful = talk.lawful;
    all = talk.all;
    sent = talk.sends;
    got = (left, talk.whole ∙ ap (λ (l : List ℕ). l ++ left) (sym talk.takes));
    taken = all_taken;
    split = talk.split;
  }

-- what was heard of a run is what comes of the job
pub makes_so : {E F : Type 0} (job : ScriptJob) (s script : Script) (tells : Heard → Told) (heard : Result Heard E) (made : Result Making F) → s ≡ script
    → IfOk heard (λ (h : Heard). Makes job s (tells h) h.output.items h.fault)
    → IfOk made (λ (m : Making). (h : Heard) × (heard ≡ Ok h) × (m.output.items ≡ h.output.items) × (told m.outcome ≡ tells h) × (m.outcome.fault ≡ h.fault))
    → IfOk made (λ (m : Making). Makes job script (told m.outcome) m.output.items m.outcome.fault)
makes_so {E} job s script tells heard (Ok m) is makes made =
    let h : Heard = made.0 in
    let of_h : Makes job s (tells h) h.output.items h.fault = subst (λ (r : Result Heard E). IfOk r (λ (h : Heard). Makes job s (tells h) h.output.items h.fault)) made.1 makes in
    let of_m : Makes job s (tells h) m.output.items h.fault = subst (λ (output : List ℕ). Makes job s (tells h) output h.fault) (sym made.2) of_h in
    let told_m : Makes job s (told m.outcome) m.output.items h.fault = subst (λ (t : Told). Makes job s t m.output.items h.fault) (sym made.3) of_m in
    let due_m : Makes job s (told m.outcome) m.output.items m.outcome.fault = subst (λ (f : Fault). Makes job s (told m.outcome) m.output.items f) (sym made.4) told_m in
    subst (λ (x : Script). Makes job x (told m.outcome) m.output.items m.outcome.fault) is due_m
makes_so job s script tells heard (Err e) is makes made = tt

-- by another name of the job
pub make_so : {E : Type 0} (job other : ScriptJob) (s : Script) (made : Result Making E) → job ≡ other
    → IfOk made (λ (m : Making). Makes other s (told m.outcome) m.output.items m.outcome.fault) → IfOk made (λ (m : Making). Makes job s (told m.outcome) m.output.items m.outcome.fault)
make_so job other s made is makes = subst (λ (j : ScriptJob). IfOk made (λ (m : Making). Makes j s (told m.outcome) m.output.items m.outcome.fault)) (sym is) makes

pub alone_so : {E : Type 0} (job other : ScriptJob) (run : ScriptRun) (heard : Result Heard E) → job ≡ other
    → IfOk heard (λ (h : Heard). MakesAlone other run h.events h.output.items h.fault) → IfOk heard (λ (h : Heard). MakesAlone job run h.events h.output.items h.fault)
alone_so job other run heard is makes = subst (λ (j : ScriptJob). IfOk heard (λ (h : Heard). MakesAlone j run h.events h.output.items h.fault)) (sym is) makes

pub counts_else : {E : Type 0} (job : ScriptJob) (run : ScriptRun) (heard : Result Heard E) → ((options : RunOptions) → job ≡ Run options → ⊥) → (job ≡ Record → ⊥) → IsLogged job
    → IfOk heard (λ (h : Heard). (count : ℕ) → MakesAlone (Generate count) run h.events h.output.items h.fault) → IfOk heard (λ (h : Heard). MakesAlone job run h.events h.output.items h.fault)
counts_else job run (Err e) not_run not_record logged makes = tt
counts_else (Run options) run (Ok h) not_run not_record logged makes = absurd (not_run options refl)
counts_else Record run (Ok h) not_run not_record logged makes = absurd (not_record refl)
counts_else (Generate count) run (Ok h) not_run not_record logged makes = makes count
counts_else job run (Ok h) not_run not_record logged makes = absurd logged

-- a script that isn't run
pub unrun_so : {E F : Type 0} (job : ScriptJob) (s : Script) (text : List ℕ) (output : Result Buffer E) (made : Result Making F)
    → ((told : Told) (items : List ℕ) (fault : Fault) → IsUntold told → items ≡ text → fault ≡ Fine → Makes job s told items fault)
    → IfOk output (λ (b : Buffer). b.items ≡ text) → IfOk made (λ (m : Making). IsUntold (told m.outcome) × (output ≡ Ok m.output) × (m.outcome.fault ≡ Fine))
    → IfOk made (λ (m : Making). Makes job s (told m.outcome) m.output.items m.outcome.fault)
unrun_so {E} job s text output (Ok m) so is made =
    so (told m.outcome) m.output.items m.outcome.fault made.0 (subst (λ (r : Result Buffer E). IfOk r (λ (b : Buffer). b.items ≡ text)) made.1 is) made.2
unrun_so job s text output (Err e) so is made = tt

-- the jobs that log are all but four
pub logs : (job : ScriptJob) → (job ≡ Terminals → ⊥) → (job ≡ Steer → ⊥) → (job ≡ Table → ⊥) → (job ≡ Print → ⊥) → IsLogged job
logs Terminals not_terminals not_steer not_table not_print = absurd (not_terminals refl)
logs Steer not_terminals not_steer not_table not_print = absurd (not_steer refl)
logs Table not_terminals not_steer not_table not_print = absurd (not_table refl)
logs Print not_terminals not_steer not_table not_print = absurd (not_print refl)
logs (Run options) not_terminals not_steer not_table not_print = tt
logs Record not_terminals not_steer not_table not_print = tt
logs (Generate count) not_terminals not_steer not_table not_print = tt
