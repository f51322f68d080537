use Rattle.std.proofs.Common.{Some, None}
use Rattle.std.proofs.lemmas.List.Elements.{All-push, All-same, All-set}
use Rattle.defmt_spelling.specs.Names.{IsNear}
use Rattle.defmt_spelling.proofs.near.keep_near.Goals as goal

pub places-preserved : goal.places-preserved
places-preserved c = λ names h. All-same (IsNear names) _ _ c.in-Ok.ensures.items (All-push (IsNear names) c.places.near.items None (c.places.invariant names h) tt)

pub returns-in-Err : goal.returns-in-Err
returns-in-Err c = λ names one h. All-same (IsNear names) _ _ c.in-Err.ensures.items (c.places.invariant names h)

pub returns : goal.returns
returns c = λ names one h. All-set (IsNear names) c.places.near.items c.place_of-place.result (Some c.args.one) one (c.places.invariant names h)
