use Rattle.std.proofs.Common.{arith}
use Rattle.rtt_terminal.proofs.SpeechLaws.{count_whole}
use Rattle.rtt_terminal.proofs.speech.Speech.len.Goals as goal

pub returns : goal.returns
returns c =
    count_whole c.args.self.now c.loop-writer.count c.loop-writer.writer c.loop-writer.invariant (omega (arith, c.lawful.ensures.eight, c.loop-writer-test.false, c.loop-writer.auto.writer-end))
