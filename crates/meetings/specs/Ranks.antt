-- The ranks of two vessels (Rule 18 of the COLREGs 1972), when their engagement begins.
use Rattle.std.specs.Prelude.{ℕ, ◌≡◌, ◌-◌, true, false}
use Rattle.encounters.specs.declared.engagement_state.EngagementState.{EngagementState}
use Rattle.encounters.specs.declared.engagement_state.EngagementState.TheVariants.{Apart, Engaged}
use Rattle.meetings.specs.declared.by_rank.ByRank.{ByRank}

-- Neither of two power-driven vessels gives way by rank. Vessels of unknown rank count as such.
abbrev pub both_power_driven : ByRank
both_power_driven = record { gives = false; stands = false; both_power = true }

-- the same at each step
abbrev pub all_power_driven : ℕ → ByRank
all_power_driven i = both_power_driven

-- Any possible result of the duties by rank is this one.
abbrev pub SaysOnly : (ByRank → Type 0) → ByRank → Type 0
SaysOnly MaySay by_rank = (said : ByRank) → MaySay said → said ≡ by_rank

-- the step at which the engagement at step i began; step i itself, if there is none
abbrev pub beginning_at : ℕ → EngagementState → ℕ
beginning_at i Apart = i
beginning_at i (Engaged kind age a b) = i - age
