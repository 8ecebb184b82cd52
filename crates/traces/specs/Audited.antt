-- What an audit is given, and which traces that makes.
use Rattle.std.specs.Prelude.{ℕ, ◌≡◌, ◌≢◌, ◌+◌, ◌-◌, ◌^◌, ◌==◌, ◌⊎◌, List, [], length, get_or, map, All, Option, unwrap_or}
use Rattle.std.specs.List.{Contains, find, zip}
use Rattle.std.specs.List.Sorted.{IsStrictlyIncreasing}
use Rattle.std.specs.Map.{lookup}
use Rattle.std.specs.Option.{option_map}
use Rattle.fixed_geometry.specs.Sizes.{IsBelow}
use Rattle.encounters.specs.Directions.{HasDirection}
use Rattle.encounters.specs.declared.act.Act.{Act}
use Rattle.encounters.specs.declared.detect.Detect.{Detect}
use Rattle.encounters.specs.declared.pair_step.PairStep.{PairStep}
use Rattle.meetings.specs.Terms.{Terms}
use Rattle.meetings.specs.Traces.{BeginsTrace, IsShortMove, step_between, steps_from}
use Rattle.meetings.specs.declared.by_rank.ByRank.{ByRank}
use Rattle.meetings.specs.declared.pair.Pair.{Pair}
use Rattle.ranks.specs.declared.rank.Rank.{Rank}
use Rattle.ranks.specs.declared.rank.Rank.TheVariants.{Power}
use Rattle.traces.specs.PairRanks.{by_rank_of}
use Rattle.motion.specs.declared.leg.TickState.{TickState}
use Rattle.rule_set.specs.NamedTrees.{NamedTree}

-- A tick lasts so many seconds, and the last one has the number `last_tick`.
pub record AuditNumbers : Type 0 where
  pub detect : Detect
  pub act : Act
  pub tick : ℕ
  pub last_tick : ℕ
  pub subjects : List ℕ
  pub rules : List NamedTree

-- the numbers that the meetings of two vessels depend on
abbrev pub terms_of : AuditNumbers → Terms
terms_of numbers = record { detect = numbers.detect; act = numbers.act; tick = numbers.tick }

-- ---- what is seen at a tick

-- vessels, each by her MMSI, with her state there
abbrev pub SeenVessels : Type 0
SeenVessels = List (ℕ × TickState)

-- The vessels that are seen at a tick, and their ranks in the same order. If ranks do not count, there are none.
pub record Sighting : Type 0 where
  pub vessels : SeenVessels
  pub ranks : List Rank

-- these vessels, where ranks do not count
abbrev pub unranked : SeenVessels → Sighting
unranked vessels = record { vessels = vessels; ranks = [] }

-- at a tick that was not given
abbrev pub nothing_seen : Sighting
nothing_seen = unranked []

-- the sighting at a tick
abbrev pub sighting_at : List Sighting → ℕ → Sighting
sighting_at ticks k = get_or ticks k nothing_seen

-- that at the last tick that was given
abbrev pub last_sighting : List Sighting → Sighting
last_sighting ticks = sighting_at ticks (length ticks - 1)

-- They are given in the order of their MMSIs.
abbrev pub AreAscending : SeenVessels → Type 0
AreAscending seen = IsStrictlyIncreasing (map (λ (vessel : ℕ × TickState). vessel.0) seen)

-- A vessel lies less than 2^33 tenths of a millimetre from the origin in each component, and heads as a report can say.
abbrev pub ArePlaced : SeenVessels → Type 0
ArePlaced seen = All (λ (vessel : ℕ × TickState). IsBelow (2 ^ 33) vessel.1.point × HasDirection vessel.1) seen

abbrev pub state_in : ℕ → SeenVessels → Option TickState
state_in mmsi seen = option_map (λ (vessel : ℕ × TickState). vessel.1) (find (λ (vessel : ℕ × TickState). vessel.0 == mmsi) seen)

-- the state of a vessel at a tick; at one that was not given none is seen
abbrev pub seen_state_at : List Sighting → ℕ → ℕ → Option TickState
seen_state_at ticks mmsi k = state_in mmsi (sighting_at ticks k).vessels

-- From one tick to the next each vessel that is seen at both moves no further than a step may say.
abbrev pub MoveLittle : SeenVessels → SeenVessels → Type 0
MoveLittle before after = (mmsi : ℕ) → IsShortMove (state_in mmsi before) (state_in mmsi after)

-- the step of a pair from one tick to the next, by the vessels seen at them
abbrev pub step_of : Pair → SeenVessels → SeenVessels → Option PairStep
step_of pair before seen = step_between (state_in pair.subject before) (state_in pair.other before) (state_in pair.subject seen) (state_in pair.other seen)

-- ---- the ranks there

-- her rank: the one given beside her, and `Power` if there is none
abbrev pub rank_in : ℕ → Sighting → Rank
rank_in mmsi seen = unwrap_or (lookup (λ m. m == mmsi) (zip (map (λ (vessel : ℕ × TickState). vessel.0) seen.vessels) seen.ranks)) Power

-- what the ranks of the two vessels of a pair say there
abbrev pub by_rank_in : Pair → Sighting → ByRank
by_rank_in pair seen = by_rank_of (rank_in pair.subject seen) (rank_in pair.other seen)

-- ---- the traces

-- Two vessels, one of them a subject; if there are no subjects, any two.
pub record IsAudited (subjects : List ℕ) (pair : Pair) : Type 0 where
  pub two : pair.subject ≢ pair.other
  pub chosen : (subjects ≡ []) ⊎ Contains subjects pair.subject ⊎ Contains subjects pair.other

module _ (numbers : AuditNumbers) (ticks : List Sighting) where
  -- The trace of the pair begins at this tick: the least before the last at which both are seen, and watched.
  pub record Begins (pair : Pair) (start : ℕ) : Type 0 where
    pub audited : IsAudited numbers.subjects pair
    pub begins : BeginsTrace (seen_state_at ticks pair.subject) (seen_state_at ticks pair.other) numbers.detect.watch numbers.last_tick start

  -- its steps, from there to the last tick that was given
  abbrev pub trace_steps : Pair → ℕ → List (Option PairStep)
  trace_steps pair start = steps_from (seen_state_at ticks pair.subject) (seen_state_at ticks pair.other) start (length ticks - 1 - start)

-- what the ranks say at each step of a trace that begins at this tick: those at the step's first tick
abbrev pub trace_ranks : List Sighting → Pair → ℕ → ℕ → ByRank
trace_ranks ticks pair start k = by_rank_in pair (sighting_at ticks (start + k))
