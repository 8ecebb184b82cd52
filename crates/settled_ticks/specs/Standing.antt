-- The ticks returned so far.
use Rattle.std.specs.Prelude.{ℕ, ◌≡◌, ◌+◌, ◌-◌, ◌≤◌, List, IsSome}
use Rattle.traces.specs.Audited.{AreAscending, ArePlaced, MoveLittle, SeenVessels, Sighting, last_sighting}
use Rattle.log_lines.specs.JudgedLines.{numbers_of}
use Rattle.log_lines.specs.SentLines.{sent}
use Rattle.log_lines.specs.Standing.{StandsFor as JudgeStandsFor}
use Rattle.log_lines.specs.declared.judge.Judge.{Judge}
use Rattle.ranks.specs.VesselRanks.{report_at}
use Rattle.scenario_values.specs.Ticks.{time_of_tick}
use Rattle.scenario_values.specs.declared.values.Scenario.{Scenario}
use Rattle.settled_ticks.specs.Sightings.{seen_first, sighting_by}
use Rattle.settled_ticks.specs.declared.settled_ticks.SettledTicks.{SettledTicks}
use Rattle.tracks.specs.SeenVessels.{seen_of}
use Rattle.tracks.specs.Standing.{Remembers}
use Rattle.tracks.specs.VesselsHeld.{accepted_of}
use Rattle.tracks.specs.declared.keeping.Keeping.{Keeping}

-- the number of ticks returned so far, which are the first ones
abbrev pub handed_out : SettledTicks → ℕ
handed_out ticks = ticks.next

-- the sighting at the latest of them
abbrev pub latest_sighting : SettledTicks → Sighting
latest_sighting ticks = record { vessels = ticks.seen.items; ranks = ticks.ranks.items }

-- The judge's model is some list of lines.
pub record HasJudged (judge : Judge) (scenario : Scenario) : Type 0 where
  pub lines : List (List ℕ)
  pub judged : JudgeStandsFor judge scenario lines

-- the time of the latest of this many ticks: the vessels seen then are still needed, but nothing earlier
abbrev pub latest_time : Scenario → ℕ → ℕ
latest_time scenario count = time_of_tick scenario.window (count - 1)

-- The stored data shows which vessels were seen at the latest of this many ticks.
abbrev pub RemembersTicks : Keeping → Scenario → ℕ → Type 0
RemembersTicks keeping scenario count = Remembers keeping (latest_time scenario count)

-- By the lines of a judge the vessel has reported at this time.
pub record HasReported (judge : Judge) (mmsi time : ℕ) : Type 0 where
  pub scenario : Scenario
  pub lines : List (List ℕ)
  pub judged : JudgeStandsFor judge scenario lines
  pub reported : IsSome (report_at (accepted_of (numbers_of scenario) (sent scenario lines) mmsi) time)

-- They are the vessels seen at the time, by the lines of a judge.
pub record AreSeen (judge : Judge) (vessels : SeenVessels) (time : ℕ) : Type 0 where
  pub scenario : Scenario
  pub lines : List (List ℕ)
  pub judged : JudgeStandsFor judge scenario lines
  pub seen : vessels ≡ seen_of (numbers_of scenario) (sent scenario lines) time

-- The next tick was returned, with its sighting by the judge's lines. The vessels have moved little since the tick
-- before.
pub record IsHandedOut (old new : SettledTicks) (scenario : Scenario) (judge : Judge) : Type 0 where
  pub next : handed_out new ≡ handed_out old + 1
  pub within : handed_out old ≤ scenario.window.ticks
  pub ascending : AreAscending (latest_sighting new).vessels
  pub placed : ArePlaced (latest_sighting new).vessels
  pub seen : (lines : List (List ℕ)) → JudgeStandsFor judge scenario lines
      → latest_sighting new ≡ sighting_by scenario (sent scenario lines) (handed_out old)
  pub moves : (lines : List (List ℕ)) → JudgeStandsFor judge scenario lines
      → MoveLittle (last_sighting (seen_first scenario (sent scenario lines) (handed_out old))).vessels (latest_sighting new).vessels
