use Rattle.rtt_terminal.specs.Speech.{CanBeSaid, said_by}
use Rattle.rtt_terminal.proofs.SpeechLaws.{at_place}
use Rattle.rtt_terminal.proofs.speech.Speech.saying_at.Goals as goal

pub returns-clause-sayable : goal.returns-clause-sayable
returns-clause-sayable c = at_place CanBeSaid (said_by c.args.self.now c.args.writer) c.args.place c.there.result.now c.there.ensures (c.lawful.ensures.each c.args.writer)
