use Rattle.std.proofs.Common.{ap, ◌∙◌}
use Rattle.rtt_booth.proofs.Append.{next_word, words_of-snoc}
use Rattle.rtt_booth.specs.Said.{words_of}
use Rattle.rtt_booth.proofs.speaking.SpeakingWorkEachText.step.Goals as goal

pub append-requires-clause-place : goal.append-requires-clause-place
append-requires-clause-place g c = rw (c.self.invariant.0, c.self.view_is) c.requires.place

pub returns-clause-done : goal.returns-clause-done
returns-clause-done g c w =
    let words = c.self.inside.stand.said.words in
    rw (← c.self.view_is) (ap (words_of w) c.append.ensures.words ∙ words_of-snoc w words (next_word words c.args.writer))
