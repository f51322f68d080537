use Rattle.std.proofs.Common.{◌≡◌, ◌+◌, ◌-◌, ℕ, List, length, refl, subst}
use Rattle.std.specs.Io.KnownBytes.{Appends}
use Rattle.defmt_decode.specs.Event.{tells}
use Rattle.defmt_blocks.specs.Blocks.{bytes_of}
use Rattle.defmt_listen.specs.Streams.{Output, output_of}
use Rattle.defmt_listen.proofs.Fronts.{Front}
use Rattle.defmt_blocks.proofs.Stretches.{size_of_stretch}
use Rattle.defmt_blocks.proofs.Telling.{partly_taken, taken_over}
use Rattle.defmt_blocks.proofs.joining.take_over.Goals as goal

pub returns-in-Ok-clause-heard : goal.returns-in-Ok-clause-heard
returns-in-Ok-clause-heard g c stream st =
    let said = c.requires.said in
    let part : List ℕ = c.args.part.now in
    let b = c.args.block.now in
    let bytes : List ℕ = bytes_of part b in
    let output : Output = output_of g.K.Sink.held g.K.Sink.faults c.args.out.now c.write_all.new.out in
    let size : length bytes ≡ b.to - b.from = size_of_stretch part b.from b.to said.1 said.2 in
    taken_over (tells c.args.listener.now.host.table) c.pass_pieces.new.self.framing c.args.reporter.now c.args.side.now b.last bytes output stream
    c.requires.last said.0 (c.pass_pieces.ensures.passed stream bytes st size said.3)
    c.go_on_as.new.self c.args.report.now.faults (c.args.report.now.faults + c.args.side.now.report.faults)
    c.go_on_as.ensures.small.0 c.go_on_as.ensures.small.1 c.go_on_as.ensures.behind refl
    (subst (λ (l : List ℕ). Appends output.held output.held_after l) c.as_slice.ensures c.in-Ok.ensures.ok)

pub returns-in-Err-clause-some : goal.returns-in-Err-clause-some
returns-in-Err-clause-some g c stream st =
    let said = c.requires.said in
    let part : List ℕ = c.args.part.now in
    let b = c.args.block.now in
    let bytes : List ℕ = bytes_of part b in
    let output : Output = output_of g.K.Sink.held g.K.Sink.faults c.args.out.now c.write_all.new.out in
    let size : length bytes ≡ b.to - b.from = size_of_stretch part b.from b.to said.1 said.2 in
    partly_taken (tells c.args.listener.now.host.table) c.pass_pieces.new.self.framing c.args.reporter.now c.args.side.now b.last bytes output stream
    c.requires.last said.0 (c.pass_pieces.ensures.passed stream bytes st size said.3)
    c.go_on_as.ensures.small.0 c.go_on_as.ensures.small.1
    (subst (λ (l : List ℕ). Front output.held output.held_after l) c.as_slice.ensures c.in-Err.ensures.prefix)
