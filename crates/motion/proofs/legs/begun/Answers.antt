use Rattle.std.proofs.Common.{leb, leb-true, leb-false, rules}
use Rattle.std.proofs.lemmas.List.Sorted.{IsPartitionPoint-from_clause, IsPartitionedBy-leb}
use Rattle.motion.proofs.Search.{begin_in_order}
use Rattle.motion.proofs.legs.begun.Goals as goal

pub returns-clause-parts : goal.returns-clause-parts
returns-clause-parts c =
    let parted = IsPartitionedBy-leb (λ leg. leg.t1) _ c.args.time (begin_in_order c.args.legs.now c.requires) in
    let point = IsPartitionPoint-from_clause (λ leg. leb leg.t1 c.args.time) _ _ c.partition_point.ensures.partitioned parted (λ a r q k. search rules) in
    (λ k d h lt. leb-true _ _ (point.0 k d h lt), λ k d h lt. leb-false _ _ (point.1 k d h lt))
