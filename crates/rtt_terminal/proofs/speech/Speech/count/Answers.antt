use Rattle.std.proofs.Common.{ap, arith, length}
use Rattle.rtt_terminal.proofs.SpeechLaws.{said_within}
use Rattle.rtt_terminal.proofs.speech.Speech.count.Goals as goal

pub overflow_cast-result : goal.overflow_cast-result
overflow_cast-result c = omega (arith, ap length c.sayings.ensures, said_within c.args.self.now c.args.writer, c.lawful.ensures.few)
