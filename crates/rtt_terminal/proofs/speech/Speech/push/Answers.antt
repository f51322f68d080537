use Rattle.std.proofs.Common.{◌≡◌, ◌<◌, length, arith}
use Rattle.std.specs.Prelude.{slice_set}
use Rattle.rtt_terminal.specs.Speech.{CanBeSaid, count_texts}
use Rattle.rtt_terminal.proofs.SpeechLaws.{left_saying, put_saying, still_speech}
use Rattle.rtt_terminal.proofs.speech.Speech.push.Goals as goal

pub returns : goal.returns
returns c =
    let speech = c.self.inside.writers.items in
    let said = c.in_ok-said.said in
    let within : c.args.writer < length speech = omega (arith, c.self.invariant.eight) in
    let same : speech ≡ c.args.self.now = c.self.view_is in
    record {
      ok = rw (← same, ← c.in_ok-said.ensures) (put_saying speech c.args.writer said c.index_mut.result.now c.push.new.self c.push.result within c.index_mut.ensures.value c.push.ensures.ok c.push.ensures.err);
      err = rw (← same) (left_saying speech c.args.writer c.index_mut.result.now c.push.new.self c.push.result c.index_mut.ensures.value c.push.ensures.err);
    }

pub invariant_of-self : goal.invariant_of-self
invariant_of-self c =
    let speech = c.self.inside.writers.items in
    let said = c.in_ok-said.said in
    let within : c.args.writer < length speech = omega (arith, c.self.invariant.eight) in
    let same : speech ≡ c.args.self.now = c.self.view_is in
    let few : count_texts speech < 4096 = rw same c.requires.few in
    let can : CanBeSaid said = rw c.in_ok-said.ensures (record { one = c.requires.terminal; utf8 = c.utf8.text; sayable = c.requires.text }) in
    still_speech speech (slice_set speech c.args.writer c.push.new.self) c.args.writer said c.push.result c.self.invariant c.requires.writer can few
    (put_saying speech c.args.writer said c.index_mut.result.now c.push.new.self c.push.result within c.index_mut.ensures.value c.push.ensures.ok c.push.ensures.err)
    (left_saying speech c.args.writer c.index_mut.result.now c.push.new.self c.push.result c.index_mut.ensures.value c.push.ensures.err)
