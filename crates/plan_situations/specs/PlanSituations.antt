-- The situation in which own ship's plan is searched for at now, the last tick, by scenario and messages.
use Rattle.std.specs.Prelude.{ℕ, ◌+◌, ◌*◌, List, [], map, Option, Some, Result}
use Rattle.std.specs.List.{range_with_len}
use Rattle.lattice.specs.Grids.{positions_of}
use Rattle.motion.specs.declared.leg.TickState.{TickState}
use Rattle.plan_situations.specs.Prediction.{predicted_state}
use Rattle.plan_situations.specs.declared.situation.Situation.{Situation}
use Rattle.plan_situations.specs.declared.situation.Target.{Target}
use Rattle.predictions.specs.declared.changes.Change.{Change}
use Rattle.scenario_values.specs.Ticks.{window_end, time_of_tick}
use Rattle.scenario_values.specs.declared.own_part.OwnPart.{OwnPart}
use Rattle.scenario_values.specs.declared.values.Scenario.{Scenario}
use Rattle.scenario_values.specs.declared.values.Window.{Window}
use Rattle.tracks.specs.AcceptedReports.{JudgingNumbers}
use Rattle.tracks.specs.Lengths.{length_of}
use Rattle.tracks.specs.VesselsHeld.{Sent, legs_of, statics_of}
use Rattle.plan_situations.specs.KnownStates.{changes_for, known_state}
use Rattle.plan_situations.specs.NearVessels.{near_of, others_of, point_now}
use Rattle.plan_situations.specs.Readiness.{readiness_of}
use Rattle.plan_situations.specs.declared.near.Near.{Near}
use Rattle.plan_situations.specs.declared.readiness.Ready.{Ready}
use Rattle.plan_situations.specs.declared.readiness.Unready.{Unready}
use Rattle.plan_situations.specs.declared.preparation.TheConstants.{MOST_TARGETS}

-- tenths of a millimetre in a metre
abbrev pub metre : ℕ
metre = 10000

-- the greatest number of targets
abbrev pub greatest_targets : ℕ
greatest_targets = MOST_TARGETS

-- how a vessel is known at the ticks up to now, by the changes that are predicted of her
abbrev pub past_of : JudgingNumbers → List Sent → Window → List Change → Near → List (Option TickState)
past_of numbers messages window changes vessel =
    map (λ k. known_state vessel.latest (legs_of numbers messages vessel.mmsi) changes (window_end window) (time_of_tick window k)) (range_with_len 0 (window.ticks + 1))

-- how she is predicted at the ticks from now on, for this number of ticks after now
abbrev pub ahead_of : Window → ℕ → List Change → Near → List TickState
ahead_of window ticks changes vessel =
    map (λ k. predicted_state vessel.latest changes (window_end window) (time_of_tick window (window.ticks + k))) (range_with_len 0 (ticks + 1))

-- a target of own ship: her domain grows with her length
unfoldable pub target_of : JudgingNumbers → List Sent → Window → OwnPart → Near → Target
target_of numbers messages window own vessel = record {
  mmsi = vessel.mmsi;
  past = past_of numbers messages window (changes_for own.predict vessel.mmsi) vessel;
  ahead = ahead_of window (positions_of own.lattice) (changes_for own.predict vessel.mmsi) vessel;
  domain = record { radius = metre * (own.base + own.lengths * length_of (statics_of messages vessel.mmsi).ship) };
}

module _ (numbers : JudgingNumbers) (messages : List Sent) (scenario : Scenario) (own : OwnPart) where
  -- whether own ship is ready
  abbrev pub own_readiness : Result Ready Unready
  own_readiness = readiness_of numbers messages (window_end scenario.window) own.mmsi

  -- the vessels near her, herself among them
  unfoldable pub vessels_near : Ready → List Near
  vessels_near ready = near_of numbers messages (window_end scenario.window) (metre * own.range) (point_now (window_end scenario.window) ready.latest)

  -- her targets
  abbrev pub targets_near : Ready → List Near
  targets_near ready = others_of own.mmsi (vessels_near ready)

  -- She starts at now from her point, with the course and the speed of her latest accepted report.
  unfoldable pub situation_of : Ready → Situation
  situation_of ready = record {
    own_past = past_of numbers messages scenario.window [] (record { mmsi = own.mmsi; latest = ready.latest });
    start = record { point = point_now (window_end scenario.window) ready.latest; direction = Some ready.course; speed = Some ready.speed };
    targets = map (target_of numbers messages scenario.window own) (targets_near ready);
    rules = scenario.rules;
    detect = scenario.detect;
    act = scenario.act;
    lattice = own.lattice;
    tick = scenario.window.tick;
    shape = own.shape;
  }
