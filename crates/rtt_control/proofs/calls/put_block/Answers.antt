use Rattle.std.proofs.Common.{arith}
use Rattle.rtt_control.proofs.PartLemmas.{block_written}
use Rattle.rtt_control.proofs.calls.put_block.Goals as goal

pub returns-clause-bytes : goal.returns-clause-bytes
returns-clause-bytes c = block_written c.args.image.now c.put.new.image c.put_words.new.image c.put_descriptors.new.image c.put_descriptors-2.new.image c.args.at c.args.up.now c.args.down.now
    (omega (arith, c.requires.fits)) c.put.ensures c.put_words.ensures c.put_descriptors.ensures.bytes c.put_descriptors-2.ensures.bytes
