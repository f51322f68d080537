use Rattle.std.proofs.Common.{◌≡◌, List, ℕ, false, sym, subst}
use Rattle.std.specs.Prelude.{IfSome, None, Option, Some}
use Rattle.std.specs.Str.Lines.{lines}
use Rattle.defmt_lines.specs.Settings.{is_block}
use Rattle.defmt_run.proofs.Texts.{suits_other}
use Rattle.defmt_run.specs.Running.{Suits}
use Rattle.defmt_words.specs.declared.job.ScriptJob.{ScriptJob}
use Rattle.rtt_down.specs.Modes.{FirstMode}
use Rattle.defmt_run.proofs.running.unsuited_line.Goals as goal

with_job : (J P : Type 0) (ls : List (List ℕ)) (found : Option ℕ) → J → IfSome found (λ line. P × FirstMode 1 ls (Some line)) → IfSome found (λ line. J × P × FirstMode 1 ls (Some line))
with_job J P ls None j some = tt
with_job J P ls (Some line) j some = (j, some.0, some.1)

pub returns-in-Steer-clause-none : goal.returns-in-Steer-clause-none
returns-in-Steer-clause-none c = λ none. subst (λ (job : ScriptJob). Suits job c.args.script.now) (sym c.in-Steer.is) (c.other_mode.ensures.none none)

pub returns-in-Steer-clause-some : goal.returns-in-Steer-clause-some
returns-in-Steer-clause-some c =
    with_job _ (is_block c.args.script.now.settings.mode ≡ false) (lines c.args.text.now) c.other_mode.result c.in-Steer.is c.other_mode.ensures.some

pub returns-in_default-clause-none : goal.returns-in_default-clause-none
returns-in_default-clause-none c = λ none. suits_other c.args.job.now c.args.script.now c.in_default.not-Steer
