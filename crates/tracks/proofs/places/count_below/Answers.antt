use Rattle.std.proofs.Common.{ltb, ltb-true, ltb-false, rules}
use Rattle.std.proofs.lemmas.List.Sorted.{IsPartitionPoint-from_clause, IsPartitionedBy-ltb}
use Rattle.tracks.proofs.Ascending.{in_order}
use Rattle.tracks.proofs.places.count_below.Goals as goal

pub returns-clause-parts : goal.returns-clause-parts
returns-clause-parts c =
    let parted = IsPartitionedBy-ltb (λ n. n) _ c.args.number (in_order c.args.numbers.now c.requires) in
    let point = IsPartitionPoint-from_clause (λ n. ltb n c.args.number) _ _ c.partition_point.ensures.partitioned parted (λ a r q k. search rules) in
    (λ k d h lt. ltb-true _ _ (point.0 k d h lt), λ k d h lt. ltb-false _ _ (point.1 k d h lt))
