use Rattle.std.proofs.Common.{arith}
use Rattle.defmt_writers.proofs.Capture.{count_whole, stream_fits, turns_fit_in}
use Rattle.defmt_writers.proofs.ring_ends.frames_size.Goals as goal

pub returns : goal.returns
returns c =
    let s = c.args.script.now in
    let n = c.loop-writer.count in
    let within = c.canonical_size.ensures.within in
    let all = count_whole s.writers n c.loop-writer.writer c.loop-writer.invariant (omega (arith, c.lawful.ensures.eight, c.loop-writer-test.false, c.loop-writer.auto.writer-end)) in
    record {
      tape = λ tape lawful. stream_fits s tape n within c.lawful.ensures lawful all;
      turns = λ turns got steered. turns_fit_in s turns got n within c.lawful.ensures steered all;
    }
