use Rattle.std.proofs.Common.{arith}
use Rattle.defmt_talk.proofs.ends.talk_size.Goals as goal

pub returns : goal.returns
returns c = λ words lawful. omega (arith, c.spoken_is_short.ensures c.args.speech.now words c.lawful.ensures lawful, c.len.ensures)
