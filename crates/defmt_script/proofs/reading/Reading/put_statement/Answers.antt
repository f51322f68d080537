use Rattle.std.proofs.Common.{Ok, Result, List, ap, arith, subst, sym, true, ◌<◌, ◌∙◌, ◌≡◌}
use Rattle.std.specs.Prelude.{slice_set}
use Rattle.defmt_lines.specs.Form.{StringsAreOver}
use Rattle.defmt_lines.specs.declared.cause.Cause.{Cause}
use Rattle.defmt_script.proofs.StatementSteadiness.{all_added, placed, sound_of, statement_counted, statement_steady, taken}
use Rattle.defmt_script.proofs.Steadiness.{state}
use Rattle.defmt_script.proofs.TurnLaws.{told_behind}
use Rattle.defmt_script.specs.Lawful.{AllAreSound}
use Rattle.defmt_script.specs.Reads.{is_message, takes_statement}
use Rattle.defmt_script.specs.Script.{count_statements}
use Rattle.defmt_script.specs.State.{State}
use Rattle.defmt_values.specs.Fits.{Fits}
use Rattle.defmt_values.specs.Sound.{AreSound}
use Rattle.defmt_values.specs.declared.value.Statement.{Statement}
use Rattle.defmt_script.proofs.reading.Reading.put_statement.Goals as goal

pub invariant_of-self-2 : goal.invariant_of-self-2
invariant_of-self-2 c =
    let inside = state c.self.inside.first c.self.inside.settings c.self.inside.table.entries c.self.inside.names c.self.inside.writers.items c.self.inside.said in
    let over = subst (λ (v : State). StringsAreOver v.first) (sym c.self.view_is) c.requires.closed in
    let room = subst (λ (v : State). count_statements v.script < 4096) (sym c.self.view_is) c.requires.room in
    let fits = subst (λ (v : State). Fits v.script.table c.args.stm.index c.args.stm.args) (sym c.self.view_is) c.requires.fits in
    let message = subst (λ (v : State). is_message v.script.table c.args.stm.index ≡ true) (sym c.self.view_is) c.requires.message in
    let sound = sound_of c.self.inside.table.entries c.self.inside.settings c.args.stm fits message (sym c.is_long.ensures ∙ c.if-is_long.false) (sym c.in_ok-is_wide.ensures ∙ c.if-branch.false) in
    let behind = placed c.self.inside.writers.items c.from.result c.args.writer c.args.stm c.index_mut.result.now c.push.new.self c.from.ensures c.index_mut.ensures.value c.in_ok-push.ensures.ok
    (omega (arith, c.from.ensures, c.requires.writer, c.self.invariant.steady.eight)) in record {
      steady = statement_steady _ _ _ _ c.self.inside.writers.items _ _ c.args.writer c.args.stm c.self.invariant.steady over c.requires.writer room sound behind;
      strings_are = c.self.invariant.strings_are;
      statements_are = statement_counted c.self.inside.writers.items _ c.args.writer c.self.inside.statements c.args.stm c.self.invariant.statements_are c.self.invariant.steady.eight c.requires.writer behind;
      told = told_behind inside.script (slice_set c.self.inside.writers.items c.from.result c.push.new.self) c.args.writer c.args.stm behind c.self.invariant.told;
      sound = subst AllAreSound (sym behind) (all_added (λ (stm : Statement). AreSound stm.args) c.args.writer c.args.stm c.self.inside.writers.items c.self.invariant.sound c.are_sound.ensures);
    }

pub returns : goal.returns
returns c =
    let inside = state c.self.inside.first c.self.inside.settings c.self.inside.table.entries c.self.inside.names c.self.inside.writers.items c.self.inside.said in
    ap (λ (v : State). takes_statement v c.args.writer c.args.stm) (sym c.self.view_is)
    ∙ taken inside c.args.writer c.args.stm (sym c.is_long.ensures ∙ c.if-is_long.false) (sym c.in_ok-is_wide.ensures ∙ c.if-branch.false)
    ∙ ap (λ (ws : List (List Statement)). let r : Result State Cause = Ok (state c.self.inside.first c.self.inside.settings c.self.inside.table.entries c.self.inside.names ws c.self.inside.said) in r)
    (sym (placed c.self.inside.writers.items c.from.result c.args.writer c.args.stm c.index_mut.result.now c.push.new.self c.from.ensures c.index_mut.ensures.value c.in_ok-push.ensures.ok
    (omega (arith, c.from.ensures, c.requires.writer, c.self.invariant.steady.eight))))
