use Rattle.std.proofs.Common.{ℕ, rules}
use Rattle.std.proofs.lemmas.List.Sorted.{answers_always}
use Rattle.motion.specs.declared.leg.TickState.{TickState}
use Rattle.traces.proofs.Reach.{in_order}
use Rattle.traces.proofs.contact_pairs.west_to_east.Goals as goal

pub returns-clause-order : goal.returns-clause-order
returns-clause-order c =
    in_order _ (c.sort_unstable_by_key.ensures.sorted (λ (vessel : ℕ × TickState). vessel.1.point.x) (answers_always _ _ _ (λ f a r g h. search rules)))
