use Rattle.std.proofs.Common.{◌-◌}
use Rattle.writer_threads.specs.Passing.{PassedAll}
use Rattle.talk_threads.proofs.talking.talk.Given as goal

abbrev pub invariant-loop-voice : goal.invariant-loop-voice
invariant-loop-voice g l = record {
  asked : PassedAll (g.G.Gate.passed l.gate g.S.Writer.NUMBER) l.fn.pen.place l.pen.place;
  relief : g.R.Relief.kept l.relief;
}

abbrev pub decreases-loop-voice : goal.decreases-loop-voice
decreases-loop-voice g l = l.voice.total - l.voice.place
