-- What holds of what is known of a vessel.
use Rattle.std.specs.Prelude.{ℕ, ◌≡◌, ◌+◌, ◌-◌, ◌*◌, ◌≤◌, ◌<◌, List, [], length, Option, Some, None, Ok, IfSome, nat_lt, slice_get, if◌then◌else◌}
use Rattle.std.specs.Option.{option_copied}
use Rattle.fixed_geometry.specs.Sizes.{IsWithin}
use Rattle.meetings.specs.Traces.{IsShortMove}
use Rattle.lattice.specs.Grids.{Grid, choices_of, positions_of}
use Rattle.motion.specs.Displacement.{displacement}
use Rattle.motion.specs.TickStates.{IsTickState, state_at}
use Rattle.motion.specs.declared.leg.Leg.{Leg}
use Rattle.motion.specs.declared.leg.TickState.{TickState}
use Rattle.plan_situations.specs.Prediction.{AreChanges, predicted_state}
use Rattle.plan_situations.specs.Domains.{IsDomain}
use Rattle.plan_situations.specs.Situations.{IsTracked, sighting}
use Rattle.plan_situations.specs.declared.situation.Target.{Target}
use Rattle.scenario_values.specs.ValueRanges.{IsOwnPart, IsWindow}
use Rattle.scenario_values.specs.Ticks.{window_end, time_of_tick}
use Rattle.scenario_values.specs.declared.own_part.OwnPart.{OwnPart}
use Rattle.scenario_values.specs.declared.values.Window.{Window}
use Rattle.tracks.specs.AcceptedReports.{JudgingNumbers}
use Rattle.tracks.specs.Standing.{BookValue, IsAccepted, StandsFor}
use Rattle.tracks.specs.VesselsHeld.{Sent}
use Rattle.tracks.specs.declared.accepted.Accepted.{Accepted}
use Rattle.tracks.specs.declared.keeping.Keeping.TheVariants.{Tracks}
use Rattle.plan_situations.specs.KnownStates.{known_state}
use Rattle.plan_situations.specs.NearVessels.{near_of, others_of, point_now}
use Rattle.plan_situations.specs.PlanSituations.{greatest_targets, metre}
use Rattle.plan_situations.specs.Preparing.{StandsForSome}
use Rattle.plan_situations.specs.Readiness.{latest_of, readiness_of}
use Rattle.plan_situations.specs.declared.near.Near.{Near}
use Rattle.plan_situations.specs.declared.readiness.Ready.{Ready}
use Rattle.plan_situations.specs.declared.targets.Setting.{Setting}
use Rattle.plan_situations.specs.declared.track.KnownTrack.{KnownTrack}

pub record IsReady (ready : Ready) : Type 0 where
  pub accepted : IsAccepted ready.latest
  pub course : ready.course < 3600
  pub speed : ready.speed ≤ 1022

-- The report came before now, at most an hour ago.
pub record IsFresh (now : ℕ) (report : Accepted) : Type 0 where
  pub before : report.time ≤ now
  pub fresh : now ≤ report.time + 3600

-- the legs of a vessel, none if she is not held
abbrev pub legs_known : Option (List Leg) → List Leg
legs_known None = []
legs_known (Some legs) = legs

-- The latest accepted report of the track's vessel came before now, at most an hour ago. From one tick to the next she moves on her
-- legs, and from a leg to that report, by no more than a report can say, and by 2 more for rounding.
pub record IsTrack (track : KnownTrack) : Type 0 where
  pub window : IsWindow track.window
  pub accepted : IsAccepted track.latest
  pub changes : AreChanges track.changes.now
  pub fresh : IsFresh (window_end track.window) track.latest
  pub moves : (t u : ℕ) (before after : TickState) → t ≤ u → u ≤ t + track.window.tick → state_at t (legs_known (option_copied track.legs)) ≡ Some before
      → state_at u (legs_known (option_copied track.legs)) ≡ Some after → IsWithin ((u - t) * 525763 + 2) (displacement before.point after.point)
  pub comes : (t : ℕ) (before : TickState) → t < track.latest.time → track.latest.time ≤ t + track.window.tick → state_at t (legs_known (option_copied track.legs)) ≡ Some before
      → IsWithin ((track.latest.time - t) * 525763 + 2) (displacement before.point track.latest.point)

-- her state at a tick, as it is known
abbrev pub known_at : KnownTrack → ℕ → Option TickState
known_at track k = known_state track.latest (legs_known (option_copied track.legs)) track.changes.now (window_end track.window) (time_of_tick track.window k)

-- her state at a tick from now on, as it is predicted
abbrev pub predicted_at : KnownTrack → ℕ → TickState
predicted_at track k = predicted_state track.latest track.changes.now (window_end track.window) (time_of_tick track.window (track.window.ticks + k))

-- At the ticks below a bound she is where a state may be, and moves so from each to the next.
pub record IsKnownBelow (bound : ℕ) (state_at : ℕ → Option TickState) : Type 0 where
  pub states : (k : ℕ) → k < bound → IfSome (state_at k) (IsTickState 7900640400)
  pub moves : (k : ℕ) → k + 1 < bound → IsShortMove (state_at k) (state_at (k + 1))

-- her state at a tick, by what a target has for the ticks up to one and from then on
abbrev pub told_at : ℕ → Target → ℕ → Option TickState
told_at ticks target k = if nat_lt k ticks then sighting target.past k else slice_get target.ahead (k - ticks)

-- A target is one of a situation of this many ticks up to now and this many from then on.
pub record IsTargetOver (ticks positions : ℕ) (target : Target) : Type 0 where
  pub until_now : length target.past ≡ ticks + 1
  pub from_now : length target.ahead ≡ positions + 1
  pub tracked : IsTracked (ticks + positions) (told_at ticks target)
  pub domain : IsDomain target.domain

-- What is prepared of: a window and own ship's part of a scenario, and a book that keeps the tracks of what it stands for.
pub record IsSetting (setting : Setting) : Type 0 where
  pub window : IsWindow setting.window
  pub own : IsOwnPart setting.window.tick setting.own.now
  pub keeping : setting.book.now.keeping ≡ Tracks
  pub gap : setting.window.tick ≤ setting.book.now.numbers.gap
  pub stands : StandsForSome setting.book.now

-- The vessel's latest accepted report is this one, and fresh.
pub record IsNear (now : ℕ) (book : BookValue) (vessel : Near) : Type 0 where
  pub accepted : IsAccepted vessel.latest
  pub fresh : IsFresh now vessel.latest
  pub latest : (numbers : JudgingNumbers) (messages : List Sent) → StandsFor book numbers messages → latest_of numbers messages vessel.mmsi ≡ Some vessel.latest

-- own ship as a vessel near herself
abbrev pub own_near : OwnPart → Ready → Near
own_near own ready = record { mmsi = own.mmsi; latest = ready.latest }

-- She is ready, and has more targets than are planned for.
abbrev pub HasMany : JudgingNumbers → List Sent → Window → OwnPart → Type 0
HasMany numbers messages window own = (ready : Ready) × (readiness_of numbers messages (window_end window) own.mmsi ≡ Ok ready)
    × (greatest_targets < length (others_of own.mmsi (near_of numbers messages (window_end window) (metre * own.range) (point_now (window_end window) ready.latest))))

-- the sizes of a lattice
pub record IsSized (lattice : Grid) : Type 0 where
  pub some_leg : 1 ≤ lattice.legs
  pub few_legs : lattice.legs ≤ 8
  pub some_choice : 1 ≤ choices_of lattice
  pub few_positions : positions_of lattice ≤ 7200
