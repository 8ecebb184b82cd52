-- Lemmas for the crates above: the laws of settled ticks, that none is settled before the first line, one sighting more, and what stays
-- remembered.
use Rattle.std.proofs.Common.{ℕ, []}
use Rattle.log_lines.specs.LineTimes.{clock_of, greatest}
use Rattle.scenario_values.specs.declared.values.Scenario.{Scenario}
use Rattle.settled_ticks.specs.Settled.{IsSettled}
pub use Rattle.settled_ticks.proofs.MovesLittle.{first_push}
pub use Rattle.settled_ticks.proofs.SeenStays.{what_is_settled_stays}
pub use Rattle.settled_ticks.proofs.Remembering.{remembers_next}
pub use Rattle.settled_ticks.proofs.EarlierTicks.{settled_ticks_are_first, settled_ticks_stay}

pub none_settled : (scenario : Scenario) (i : ℕ) → IsSettled scenario [] i → ⊥
unfolding clock_of greatest
none_settled scenario i h = h.past
