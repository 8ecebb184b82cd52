-- The values of a scenario: the numbers at its keys. Their ranges are stated where the values are defined.
use Rattle.std.specs.Prelude.{ℕ, ◌*◌, ◌/◌, codes, List, Bool, true, false, Option, Some, None}
use Rattle.toml.specs.Data.{Members}
use Rattle.fixed_geometry.specs.Place.{Place}
use Rattle.scenario_keys.specs.KeyValues.{integers_at, list_at, natural_at, naturals_at, optional_at, whole_at}
use Rattle.scenario.specs.KeyFaults.{tick_of}
use Rattle.scenario.specs.Purposes.{are_counted, ranking_of}
use Rattle.scenario.specs.Shapes.{shape_in}
use Rattle.lattice.specs.Grids.{Grid, grid}
use Rattle.scenario_values.specs.ValueRanges.{greatest_log}
use Rattle.scenario_values.specs.declared.own_part.OwnPart.{OwnPart}
use Rattle.scenario.specs.declared.purpose.Purpose.{Purpose}
use Rattle.predictions.specs.PredictValues.{predictions_of}
use Rattle.encounters.specs.declared.act.Act.{Act}
use Rattle.encounters.specs.declared.detect.Detect.{Detect}
use Rattle.rule_set.specs.NamedTrees.{NamedTree}
use Rattle.rule_set.specs.declared.ranking.Ranking.{Ranking}
use Rattle.scenario_values.specs.declared.values.Window.{Window}
use Rattle.scenario_values.specs.declared.values.LogNumbers.{LogNumbers}
use Rattle.scenario_values.specs.declared.values.Scenario.{Scenario}

-- the window of ticks: `start` in seconds since 1970, `tick` in seconds, and the number of ticks
unfoldable pub window_of : Members → Window
window_of document = record {
  start = natural_at (codes "window") (codes "start") document;
  tick = natural_at (codes "window") (codes "tick") document;
  ticks = natural_at (codes "window") (codes "ticks") document;
}

-- the place of the plane's origin, in ten thousandths of a minute, positive to the north and to the east
unfoldable pub reference_of : Members → Place
reference_of document = record {
  latitude = whole_at (codes "reference") (codes "lat") document;
  longitude = whole_at (codes "reference") (codes "lon") document;
}

-- the numbers for judging a log's lines
unfoldable pub log_numbers_of : Members → LogNumbers
log_numbers_of document = record {
  gap = natural_at (codes "log") (codes "gap") document;
  slack = natural_at (codes "log") (codes "slack") document;
  max_speed = natural_at (codes "log") (codes "max_speed") document;
  max_bytes = optional_at (codes "log") (codes "max_bytes") greatest_log document;
}

-- a distance in metres, in tenths of a millimetre
unfoldable pub units_at : List ℕ → List ℕ → Members → ℕ
units_at table name document = 10000 * natural_at table name document

-- the limits for risk of collision, and for past and clear; the horizon in ticks
unfoldable pub detect_of : Members → Detect
detect_of document = record {
  watch = units_at (codes "detect") (codes "watch") document;
  risk = units_at (codes "detect") (codes "risk") document;
  clear = units_at (codes "detect") (codes "clear") document;
  horizon = natural_at (codes "detect") (codes "horizon") document / tick_of document;
  angles = record {
    doubt = natural_at (codes "detect") (codes "doubt") document;
    ahead = natural_at (codes "detect") (codes "ahead") document;
    reciprocal = natural_at (codes "detect") (codes "reciprocal") document;
  };
}

-- the limits for keeping course and speed, and for a readily apparent alteration
unfoldable pub act_of : Members → Act
act_of document = record {
  steady_turn = natural_at (codes "act") (codes "steady_turn") document;
  apparent_turn = natural_at (codes "act") (codes "apparent_turn") document;
  steady_speed = natural_at (codes "act") (codes "steady_speed") document;
  apparent_speed = natural_at (codes "act") (codes "apparent_speed") document;
}

-- own ship's lattice of plans
unfoldable pub grid_of : Members → Grid
grid_of document =
    grid
    (integers_at (codes "own") (codes "courses") document)
    (integers_at (codes "own") (codes "speeds") document)
    (natural_at (codes "own") (codes "legs") document)
    (natural_at (codes "own") (codes "leg_ticks") document)
    (natural_at (codes "own") (codes "tail") document)
    (optional_at (codes "own") (codes "turn_rate") 1800 document)
    (optional_at (codes "own") (codes "speed_rate") 1022 document)

unfoldable pub own_of : Members → OwnPart
own_of document = record {
  mmsi = natural_at (codes "own") (codes "mmsi") document;
  lattice = grid_of document;
  base = natural_at (codes "own") (codes "base") document;
  lengths = natural_at (codes "own") (codes "lengths") document;
  range = natural_at (codes "own") (codes "range") document;
  predict = predictions_of (list_at (codes "") (codes "predict") document);
  shape = shape_in (list_at (codes "own") (codes "shape") document);
}

-- own ship, if she is needed
abbrev pub own_where : Bool → Members → Option OwnPart
own_where false document = None
own_where true document = Some (own_of document)

-- with these rules, and with ranks or without
unfoldable pub scenario_with : List NamedTree → Ranking → Option OwnPart → Members → Scenario
scenario_with rules ranks own document = record {
  window = window_of document;
  reference = reference_of document;
  log = log_numbers_of document;
  detect = detect_of document;
  act = act_of document;
  rules = rules;
  ranks = are_counted ranks;
  subjects = naturals_at (codes "") (codes "subjects") document;
  own = own;
}

-- the values of a document without a fault for a purpose, with these rules
abbrev pub scenario_of : Purpose → Members → List NamedTree → Scenario
scenario_of purpose document rules = scenario_with rules (ranking_of purpose document) (own_where purpose.need_own document) document
