-- The stored duties by rank at the beginning of an engagement.
use Rattle.std.specs.Prelude.{zero, suc}
use Rattle.encounters.specs.declared.engagement_state.EngagementState.{EngagementState}
use Rattle.encounters.specs.declared.engagement_state.EngagementState.TheVariants.{Apart, Engaged}
use Rattle.meetings.specs.declared.by_rank.ByRank.{ByRank}

-- The earlier duties stay, unless an engagement begins.
abbrev pub since_beginning : EngagementState → ByRank → ByRank → ByRank
since_beginning Apart before now = before
since_beginning (Engaged kind zero a b) before now = now
since_beginning (Engaged kind (suc age) a b) before now = before
