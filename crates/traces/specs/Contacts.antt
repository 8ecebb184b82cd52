-- Which of the vessels seen at a tick are in contact.
use Rattle.std.specs.Prelude.{ℕ, ◌<◌, List, All}
use Rattle.std.specs.List.{Contains}
use Rattle.meetings.specs.Traces.{AreInContact}
use Rattle.meetings.specs.declared.pair.Pair.{Pair}
use Rattle.traces.specs.Audited.{IsAudited, SeenVessels, state_in}

-- The pairs are those audited of the vessels in contact, the lesser MMSI first.
pub record AreContacts (subjects : List ℕ) (watch : ℕ) (seen : SeenVessels) (pairs : List Pair) : Type 0 where
  pub sound : All (λ (pair : Pair). (pair.subject < pair.other) × AreInContact watch (state_in pair.subject seen) (state_in pair.other seen)) pairs
  pub audited : All (IsAudited subjects) pairs
  pub complete : (pair : Pair) → pair.subject < pair.other → IsAudited subjects pair
      → AreInContact watch (state_in pair.subject seen) (state_in pair.other seen) → Contains pairs pair
