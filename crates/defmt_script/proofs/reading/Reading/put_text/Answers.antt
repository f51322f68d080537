use Rattle.std.proofs.Common.{ap, length, subst, sym, ◌<◌, ◌≡◌, ◌∙◌}
use Rattle.defmt_script.proofs.Steadiness.{said_steady, state}
use Rattle.defmt_script.proofs.TurnLaws.{put_text, told_pushed}
use Rattle.defmt_script.specs.Script.{statements_by}
use Rattle.defmt_script.specs.State.{State}
use Rattle.rtt_terminal.specs.Speech.{count_texts, saying}
use Rattle.defmt_script.proofs.reading.Reading.put_text.Goals as goal

pub push-requires-clause-few : goal.push-requires-clause-few
push-requires-clause-few c = subst (λ (v : State). count_texts v.script.said < 4096) (sym c.self.view_is) c.requires.room

pub invariant_of-self : goal.invariant_of-self
invariant_of-self c =
    let inside = state c.self.inside.first c.self.inside.settings c.self.inside.table.entries c.self.inside.names c.self.inside.writers.items c.self.inside.said in
    let behind : c.count-behind.result ≡ length (statements_by inside.script c.args.writer) = c.count-behind.ensures ∙ ap (λ (v : State). length (statements_by v.script c.args.writer)) (sym c.self.view_is) in
    let room : count_texts inside.script.said < 4096 = subst (λ (v : State). count_texts v.script.said < 4096) (sym c.self.view_is) c.requires.room in
    record {
      steady = said_steady inside c.push.new.self c.self.invariant.steady;
      strings_are = c.self.invariant.strings_are;
      statements_are = c.self.invariant.statements_are;
      told = told_pushed inside c.args.writer (saying c.count-behind.result c.args.terminal c.args.text.now) c.push.new.self c.push.result c.self.invariant.told c.requires.writer
          (record { one = c.requires.terminal; utf8 = c.utf8.text; sayable = c.requires.text }) room behind c.push.ensures.ok c.push.ensures.err;
      sound = c.self.invariant.sound;
    }

pub returns : goal.returns
returns c =
    let inside = state c.self.inside.first c.self.inside.settings c.self.inside.table.entries c.self.inside.names c.self.inside.writers.items c.self.inside.said in
    let behind : c.count-behind.result ≡ length (statements_by inside.script c.args.writer) = c.count-behind.ensures ∙ ap (λ (v : State). length (statements_by v.script c.args.writer)) (sym c.self.view_is) in
    put_text c.args.self.now inside c.args.writer c.args.terminal c.count-behind.result c.args.text.now c.push.new.self c.push.result c.self.view_is behind c.push.ensures.ok
