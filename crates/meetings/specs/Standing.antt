-- The models of a follower and of a trace: their numbers and the list of the steps so far.
use Rattle.std.specs.Prelude.{ℕ, ◌≡◌, ◌-◌, List, length, map, Option, IsSome}
use Rattle.encounters.specs.Standing as encounters
use Rattle.encounters.specs.declared.act.Act.{Act}
use Rattle.encounters.specs.declared.pair_step.PairStep.{PairStep}
use Rattle.meetings.specs.Answers.{Kept, answer_of}
use Rattle.meetings.specs.Atoms.{AreAtomRows}
use Rattle.meetings.specs.Ranks.{all_power_driven, beginning_at}
use Rattle.meetings.specs.SinceBeginning.{age_of}
use Rattle.meetings.specs.Terms.{Terms}
use Rattle.meetings.specs.declared.by_rank.ByRank.{ByRank}
use Rattle.meetings.specs.declared.pair.Pair.{Pair}

-- the state of a follower: its numbers, the engagement, and the duties by rank at its beginning
pub record Following : Type 0 where
  pub act : Act
  pub tick : ℕ
  pub engagement : encounters.Kept
  pub by_rank : ByRank

-- A follower follows these steps, by these numbers and by the duties by rank at each step. Those at the step at which
-- the engagement began count.
pub record FollowsRanked (following : Following) (terms : Terms) (ranks : ℕ → ByRank) (steps : List (Option PairStep)) : Type 0 where
  pub by_act : following.act ≡ terms.act
  pub by_tick : following.tick ≡ terms.tick
  pub engagement : encounters.StandsFor following.engagement terms.detect steps
  pub begun : IsSome (age_of following.engagement.latest) → following.by_rank ≡ ranks (beginning_at (length steps - 1) following.engagement.latest)

-- the same for vessels of unknown ranks
abbrev pub Follows : Following → Terms → List (Option PairStep) → Type 0
Follows following terms = FollowsRanked following terms all_power_driven

-- the state of a trace: its pair, its follower, and the rows so far
pub record Traced : Type 0 where
  pub pair : Pair
  pub following : Following
  pub rows : List Kept

-- A trace of this pair has these steps so far, by these numbers.
pub record StandsFor (traced : Traced) (pair : Pair) (terms : Terms) (steps : List (Option PairStep)) : Type 0 where
  pub of_pair : traced.pair ≡ pair
  pub follows : Follows traced.following terms steps
  pub rows : AreAtomRows terms steps (map answer_of traced.rows)
