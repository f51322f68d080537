use Rattle.std.proofs.Common.{inl, inr, List, refl, subst, ℕ}
use Rattle.defmt_recording.proofs.ToldInputs.{keeps}
use Rattle.defmt_recording.specs.Calls.{files_of}
use Rattle.defmt_recording.specs.Decoding.{Loaded, RefusesFiles}
use Rattle.defmt_recording.proofs.decoding.decode.Goals as goal

pub returns-in-Ok-clause-decodes : goal.returns-in-Ok-clause-decodes
returns-in-Ok-clause-decodes g c =
    let shelf = files_of g.F.Shelf.files g.F.Shelf.faults c.args.shelf.now c.load.new.shelf in
    let loaded = subst (λ (name : List ℕ). Loaded c.args.options.now.language shelf name c.in-Ok.table) c.as_str-name.ensures.text c.in-Ok.ensures.loaded in
    inr (c.in-Ok.table, c.in-Ok.places, loaded, c.in-Ok.ensures.places, c.print_events-fault.ensures.hears)

pub returns-in-Err-clause-decodes : goal.returns-in-Err-clause-decodes
returns-in-Err-clause-decodes g c =
    let shelf = files_of g.F.Shelf.files g.F.Shelf.faults c.args.shelf.now c.load.new.shelf in
    let refused = subst (λ (name : List ℕ). RefusesFiles c.args.options.now.language shelf name c.args.options.now.places c.in-Err.fault) c.as_str-name.ensures.text c.in-Err.ensures.refused in
    inl (refused, record { left = keeps (g.S.Source.left c.args.src.now); faults = refl }, record { held = keeps (g.K.Sink.held c.args.out.now); faults = refl })
