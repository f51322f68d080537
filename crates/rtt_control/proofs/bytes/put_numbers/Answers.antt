use Rattle.std.proofs.Common.{◌∙◌, arith, ap}
use Rattle.rtt_control.specs.Layout.{with_bytes, word_bytes}
use Rattle.std.proofs.lemmas.List.{get_or_default}
use Rattle.rtt_control.proofs.PartLemmas.{put_next, length_word}
use Rattle.rtt_control.proofs.bytes.put_numbers.Goals as goal

pub loop-n-preserved : goal.loop-n-preserved
unfolding word_bytes
loop-n-preserved c = (
  omega arith,
  put_next word_bytes 4 length_word c.args.image.now c.loop-n.image c.put.new.image c.args.at c.loop-n.place c.loop-n.n-index c.args.words.now 0
      c.loop-n-test.true (omega arith) c.loop-n.invariant.0 c.loop-n.invariant.1 (c.put.ensures ∙ ap (with_bytes c.loop-n.image c.loop-n.place) c.write_u32.ensures),
)

pub returns-clause-fit : goal.returns-clause-fit
returns-clause-fit c = λ k d lt. omega (arith, c.type_inv.words k, get_or_default c.args.words.now k d 0 lt)
