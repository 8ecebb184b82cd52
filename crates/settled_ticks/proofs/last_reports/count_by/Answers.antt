use Rattle.std.proofs.Common.{leb, leb-true, leb-false, rules}
use Rattle.std.proofs.lemmas.List.Sorted.{IsPartitionPoint-from_clause, IsPartitionedBy-leb}
use Rattle.settled_ticks.proofs.last_reports.count_by.Goals as goal

pub returns-clause-parts : goal.returns-clause-parts
returns-clause-parts c =
    let parted = IsPartitionedBy-leb (λ point. point.time) _ c.args.time c.requires in
    let point = IsPartitionPoint-from_clause (λ point. leb point.time c.args.time) _ _ c.partition_point.ensures.partitioned parted (λ a r q k. search rules) in
    (λ k d h lt. leb-true _ _ (point.0 k d h lt), λ k d h lt. leb-false _ _ (point.1 k d h lt))
