use Rattle.std.proofs.Common.{ltb, ltb-true, ltb-false, rules}
use Rattle.std.proofs.lemmas.List.Sorted.{IsPartitionPoint-from_clause, IsPartitionedBy-ltb}
use Rattle.ranks.proofs.KeptChanges.{in_order}
use Rattle.ranks.proofs.changes.changes_before.Goals as goal

pub returns-clause-parts : goal.returns-clause-parts
returns-clause-parts c =
    let parted = IsPartitionedBy-ltb (λ change. change.time) _ c.args.time (in_order c.args.changes.now c.requires) in
    let point = IsPartitionPoint-from_clause (λ change. ltb change.time c.args.time) _ _ c.partition_point.ensures.partitioned parted (λ a r q k. search rules) in
    (λ k d h lt. ltb-true _ _ (point.0 k d h lt), λ k d h lt. ltb-false _ _ (point.1 k d h lt))
