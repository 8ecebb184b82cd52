use Rattle.std.proofs.Common.{ℕ, ltb, ltb-true, ltb-false, rules}
use Rattle.std.proofs.lemmas.List.Sorted.{IsPartitionPoint-from_clause, IsPartitionedBy-ltb}
use Rattle.motion.specs.declared.leg.TickState.{TickState}
use Rattle.traces.proofs.SeenVessels.{in_order}
use Rattle.traces.proofs.sightings.count_below.Goals as goal

pub returns-clause-parts : goal.returns-clause-parts
returns-clause-parts c =
    let parted = IsPartitionedBy-ltb (λ (v : ℕ × TickState). v.0) _ c.args.mmsi (in_order c.args.seen.now c.requires) in
    let point = IsPartitionPoint-from_clause (λ (v : ℕ × TickState). ltb v.0 c.args.mmsi) _ _ c.partition_point.ensures.partitioned parted (λ a r q k. search rules) in
    (λ k d h lt. ltb-true _ _ (point.0 k d h lt), λ k d h lt. ltb-false _ _ (point.1 k d h lt))
