-- The vessels that are seen have reported, and have ranks.
use Rattle.std.proofs.Common.{◌≡◌, ℕ, ◌<◌, List, [], ◌∷◌, length, get_or, refl, sym, ap, subst, ◌∙◌}
use Rattle.std.specs.Prelude.{Option, None, Some}
use Rattle.std.specs.List.{All, cons_option, filter_map}
use Rattle.std.specs.Option.{option_map}
use Rattle.std.proofs.lemmas.List.Elements.{All-cons, All-nil}
use Rattle.motion.specs.TickStates.{state_at}
use Rattle.motion.specs.declared.leg.Leg.{Leg}
use Rattle.motion.specs.declared.leg.TickState.{TickState}
use Rattle.traces.specs.Audited.{SeenVessels}
use Rattle.ranks.specs.declared.rank.Rank.{Rank}
use Rattle.log_lines.specs.JudgedLines.{numbers_of}
use Rattle.log_lines.specs.SentLines.{sent}
use Rattle.log_lines.specs.declared.judge.Judge.{Judge}
use Rattle.scenario_values.specs.Ticks.{time_of_tick}
use Rattle.scenario_values.specs.declared.values.Scenario.{Scenario}
use Rattle.settled_ticks.specs.Sightings.{ranks_of, seen_ranked, sighting_by}
use Rattle.settled_ticks.specs.Standing.{AreSeen, HasReported}
use Rattle.tracks.specs.AcceptedReports.{JudgingNumbers}
use Rattle.tracks.specs.SeenVessels.{seen_of, seen_vessel}
use Rattle.ranks.specs.VesselRanks.{report_at}
use Rattle.tracks.specs.Standing.{Remembers, kept_points}
use Rattle.tracks.specs.VesselsHeld.{Sent, accepted_of, held_of, legs_of}
use Rattle.tracks.specs.declared.accepted.Accepted.{Accepted}
use Rattle.tracks.specs.declared.keeping.Keeping.{Keeping}
use Rattle.tracks.proofs.ForCallers.{remembered_report, seen_has_reported}

-- ---- they have reported

-- One of her legs holds the time, and her state there is hers.
abbrev IsSeen : ℕ → (ℕ → List Leg) → (ℕ × TickState) → Type 0
IsSeen time legs vessel = state_at time (legs vessel.0) ≡ Some vessel.1

onto : (time mmsi : ℕ) (legs : ℕ → List Leg) (state : Option TickState) (vessels : SeenVessels) → state_at time (legs mmsi) ≡ state → All (IsSeen time legs) vessels
    → All (IsSeen time legs) (cons_option (option_map (λ (s : TickState). (mmsi, s)) state) vessels)
onto time mmsi legs None vessels is all = all
onto time mmsi legs (Some state) vessels is all = All-cons (IsSeen time legs) (mmsi, state) vessels is all

each_is_seen : (time : ℕ) (legs : ℕ → List Leg) (mmsis : List ℕ) → All (IsSeen time legs) (filter_map (seen_vessel time legs) mmsis)
each_is_seen time legs [] = All-nil (IsSeen time legs)
each_is_seen time legs (mmsi ∷ mmsis) =
    onto time mmsi legs (state_at time (legs mmsi)) (filter_map (seen_vessel time legs) mmsis) refl (each_is_seen time legs mmsis)

all_seen : (numbers : JudgingNumbers) (messages : List Sent) (time : ℕ) → All (IsSeen time (legs_of numbers messages)) (seen_of numbers messages time)
unfolding seen_of
all_seen numbers messages time = each_is_seen time (legs_of numbers messages) (held_of numbers messages)

-- Each vessel that is seen by the lines of a judge has reported by them.
pub each_has_reported : (judge : Judge) (vessels : SeenVessels) (time k : ℕ) (vessel : ℕ × TickState) → AreSeen judge vessels time → k < length vessels
    → HasReported judge (get_or vessels k vessel).0 time
each_has_reported judge vessels time k vessel seen within =
    let numbers = numbers_of seen.scenario in
    let messages = sent seen.scenario seen.lines in
    let all = subst (All (IsSeen time (legs_of numbers messages))) (sym seen.seen) (all_seen numbers messages time) in
    record {
      scenario = seen.scenario;
      lines = seen.lines;
      judged = seen.judged;
      reported = seen_has_reported numbers messages (get_or vessels k vessel).0 time (get_or vessels k vessel).1 (all k vessel within);
    }

-- If a time is remembered, the reports that are kept show which was the last by then.
pub kept_report : (keeping : Keeping) (numbers : JudgingNumbers) (messages : List Sent) (mmsi : ℕ) (kept : List Accepted) (time : ℕ) → Remembers keeping time
    → kept ≡ kept_points keeping (accepted_of numbers messages mmsi) → report_at kept time ≡ report_at (accepted_of numbers messages mmsi) time
kept_report keeping numbers messages mmsi kept time remembers is =
    ap (λ (points : List Accepted). report_at points time) is ∙ remembered_report keeping numbers messages mmsi time remembers

-- ---- what is seen at a tick

pub vessels_by : (scenario : Scenario) (messages : List Sent) (k : ℕ)
    → (sighting_by scenario messages k).vessels ≡ seen_of (numbers_of scenario) messages (time_of_tick scenario.window k)
unfolding sighting_by
vessels_by scenario messages k = refl

pub sighting_is : (scenario : Scenario) (messages : List Sent) (k time : ℕ) (vessels : SeenVessels) (ranks : List Rank) → time ≡ time_of_tick scenario.window k
    → vessels ≡ seen_of (numbers_of scenario) messages time → ranks ≡ ranks_of scenario messages time vessels
    → record { vessels = vessels; ranks = ranks } ≡ sighting_by scenario messages k
unfolding sighting_by
sighting_is scenario messages k time vessels ranks at seen told =
    let ranked : (record { vessels = vessels; ranks = ranks }) ≡ seen_ranked scenario messages time vessels = λ i. record { vessels = vessels; ranks = told i } in
    ranked
    ∙ ap (seen_ranked scenario messages time) seen
    ∙ ap (λ (t : ℕ). seen_ranked scenario messages t (seen_of (numbers_of scenario) messages t)) at
