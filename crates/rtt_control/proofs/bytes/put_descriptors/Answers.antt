use Rattle.std.proofs.Common.{arith}
use Rattle.std.proofs.lemmas.List.{take_more}
use Rattle.std.proofs.lemmas.List.Elements.{All-push}
use Rattle.rtt_control.specs.declared.block.Descriptor.{Descriptor}
use Rattle.rtt_control.specs.Layout.{IsWords, descriptor_bytes}
use Rattle.rtt_control.proofs.PartLemmas.{put_next, length_descriptor}
use Rattle.rtt_control.proofs.bytes.put_descriptors.Goals as goal

pub loop-d-preserved : goal.loop-d-preserved
loop-d-preserved c =
    let none : Descriptor = record { name = 0; start = 0; size = 0; wr = 0; rd = 0; flags = 0 } in
    let before = c.loop-d.invariant in
    record {
      place = omega arith;
      bytes = put_next descriptor_bytes 24 length_descriptor c.args.image.now c.loop-d.image c.put_fields.new.image c.args.at c.loop-d.place c.loop-d.d-index c.args.list.now none
          c.loop-d-test.true (omega arith) before.place before.bytes c.put_fields.ensures.bytes;
      words = rw (take_more c.args.list.now c.loop-d.d-index none c.loop-d-test.true) (All-push IsWords _ _ before.words c.put_fields.ensures.words);
    }
