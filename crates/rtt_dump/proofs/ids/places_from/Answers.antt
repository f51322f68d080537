use Rattle.std.proofs.Common.{◌∙◌, ltb, arith, rules}
use Rattle.std.proofs.lemmas.Bool.{ltb-false, ltb-true}
use Rattle.std.proofs.lemmas.List.{take_rest}
use Rattle.std.proofs.lemmas.List.Sorted.{IsPartitionPoint-from_clause, IsPartitionedBy-ltb}
use Rattle.rtt_dump.proofs.PartLemmas.{from_point, rises_sorted}
use Rattle.rtt_dump.proofs.ids.places_from.Goals as goal

pub returns : goal.returns
returns c =
    let places = c.args.places.now in
    let start = c.args.start in
    let from = c.partition_point-from.result in
    let parted = IsPartitionedBy-ltb (λ p. p) places start (rises_sorted 0 places c.requires) in
    let point = IsPartitionPoint-from_clause (λ p. ltb p start) _ _ c.partition_point-from.ensures.partitioned parted (λ a r q k. search rules) in
    take_rest places from
    ∙ from_point start 0 places from c.requires c.partition_point-from.ensures.bound (λ k d h. ltb-true _ _ (point.0 k d (omega arith) h)) (λ k d h l. ltb-false _ _ (point.1 k d h l))
