use Rattle.std.proofs.Common.{◌≤◌, inl, inr, false, length, List, refl, subst, ℕ}
use Rattle.defmt_listen.specs.Heard.{recording_limit}
use Rattle.defmt_listen.specs.Streams.{Output, output_of}
use Rattle.defmt_recording.proofs.ToldInputs.{keeps}
use Rattle.defmt_recording.specs.Calls.{IsUnwritten, at_hand}
use Rattle.defmt_recording.specs.Decoding.{Hears}
use Rattle.defmt_recording.specs.Styled.{Look, look_by}
use Rattle.defmt_recording.proofs.dumping.show.Goals as goal

pub returns-in-Ok-clause-shows : goal.returns-in-Ok-clause-shows
returns-in-Ok-clause-shows g c =
    let output : Output = output_of g.K.Sink.held g.K.Sink.faults c.args.out.now c.print_events.new.out in
    let l : Look = look_by c.args.options.now.style c.args.table.now.entries c.args.places.now in
    let rest : List ℕ = c.print_events.new.src.left.now in
    inr (
      c.in-Ok.bytes.items,
      rest,
      c.in-Ok.ensures.short,
      c.in-Ok.ensures.gives,
      subst (λ (bytes : List ℕ). Hears l false c.args.table.now (at_hand bytes rest) output c.print_events.result) c.as_slice.ensures c.print_events.ensures.hears,
    )

pub returns-in-Err-clause-shows : goal.returns-in-Err-clause-shows
returns-in-Err-clause-shows g c =
    let output : Output = output_of g.K.Sink.held g.K.Sink.faults c.args.out.now c.args.out.now in
    let unwritten : IsUnwritten output = record { held = keeps (g.K.Sink.held c.args.out.now); faults = refl } in
    inl (c.in-Err.ensures.none, unwritten)
