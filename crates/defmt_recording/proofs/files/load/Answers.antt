use Rattle.std.proofs.Common.{inr, List, Option, subst, ℕ}
use Rattle.defmt_recording.proofs.Loading.{placed_before, places_before, shelf_of}
use Rattle.defmt_recording.specs.Decoding.{ArePlaces, RefusesPlaces}
use Rattle.defmt_recording.proofs.files.load.Goals as goal

pub returns-in-Ok-clause-loaded : goal.returns-in-Ok-clause-loaded
returns-in-Ok-clause-loaded g c =
    let loaded = c.in_ok-planned.ensures.loaded in
    record { file = loaded.file; fetched = loaded.fetched; within = loaded.within; names = loaded.names }

pub returns-in-Ok-clause-places : goal.returns-in-Ok-clause-places
returns-in-Ok-clause-places g c =
    placed_before (g.F.Shelf.files c.args.shelf.now) (g.F.Shelf.faults c.args.shelf.now) (g.F.Shelf.faults c.load_table.new.shelf) (g.F.Shelf.faults c.load_places.new.shelf)
    c.args.places.now c.in-Ok.places
    (subst (λ (files : Option (List ℕ → Option (List ℕ))). ArePlaces (shelf_of files (g.F.Shelf.faults c.load_table.new.shelf) (g.F.Shelf.faults c.load_places.new.shelf)) c.args.places.now c.in-Ok.places)
    c.load_table.ensures.files c.in-Ok.ensures.places)

pub returns-in-Err-clause-refused : goal.returns-in-Err-clause-refused
returns-in-Err-clause-refused g c =
    let loaded = c.in_ok-planned.ensures.loaded in
    inr (
      c.in_ok-planned.planned,
      record { file = loaded.file; fetched = loaded.fetched; within = loaded.within; names = loaded.names },
      places_before (g.F.Shelf.files c.args.shelf.now) (g.F.Shelf.faults c.args.shelf.now) (g.F.Shelf.faults c.load_table.new.shelf) (g.F.Shelf.faults c.load_places.new.shelf)
          c.args.places.now c.in-Err.fault c.load_table.ensures.later
          (subst (λ (files : Option (List ℕ → Option (List ℕ))). RefusesPlaces (shelf_of files (g.F.Shelf.faults c.load_table.new.shelf) (g.F.Shelf.faults c.load_places.new.shelf)) c.args.places.now c.in-Err.fault)
          c.load_table.ensures.files c.in-Err.ensures.refused),
    )
