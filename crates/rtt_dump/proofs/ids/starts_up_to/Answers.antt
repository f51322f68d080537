use Rattle.std.proofs.Common.{leb, arith, rules}
use Rattle.std.proofs.lemmas.Bool.{leb-false, leb-true}
use Rattle.std.proofs.lemmas.List.Sorted.{IsPartitionPoint-from_clause, IsPartitionedBy-leb}
use Rattle.rtt_dump.proofs.ids.starts_up_to.Goals as goal

pub returns : goal.returns
returns c =
    let place = c.args.place in
    let parted = IsPartitionedBy-leb (λ s. s) c.args.starts.now place c.requires in
    let point = IsPartitionPoint-from_clause (λ s. leb s place) _ _ c.partition_point.ensures.partitioned parted (λ a r q k. search rules) in
    record {
      most = c.partition_point.ensures.bound;
      up_to = λ k d lt. let most = c.partition_point.ensures.bound in leb-true _ _ (point.0 k d (omega (arith, most)) lt);
      behind = λ k d h l. leb-false _ _ (point.1 k d h l);
    }
