-- The ranges of a scenario's values.
use Rattle.std.specs.Prelude.{ℕ, ◌≤◌, ◌*◌, ◌^◌, length, All, IfSome}
use Rattle.ais_messages.specs.ShipIdentities.{IsShip}
use Rattle.encounters.specs.Risk.{IsDetect}
use Rattle.encounters.specs.declared.act.Act.{Act}
use Rattle.encounters.specs.declared.detect.Detect.{Detect}
use Rattle.lattice.specs.Grids.{positions_of}
use Rattle.predictions.specs.PredictValues.{ArePredictions}
use Rattle.scenario_values.specs.LightRules.{AreLightRules}
use Rattle.scenario_values.specs.declared.own_part.OwnPart.{OwnPart}
use Rattle.scenario_values.specs.declared.values.Window.{Window}
use Rattle.scenario_values.specs.declared.values.LogNumbers.{LogNumbers}
use Rattle.scenario_values.specs.declared.values.Scenario.{Scenario}

-- the default for the greatest length of a log, in bytes
abbrev pub greatest_log : ℕ
greatest_log = 2 ^ 30

-- Each value is in its key's range. A reference, a lattice and a shape are in range by their types.

pub record IsWindow (window : Window) : Type 0 where
  pub start : window.start ≤ 9999999999
  pub tick_from : 1 ≤ window.tick
  pub tick_to : window.tick ≤ 60
  pub ticks_from : 1 ≤ window.ticks
  pub ticks_to : window.ticks ≤ 20000

pub record AreLogNumbers (tick : ℕ) (log : LogNumbers) : Type 0 where
  pub gap_from : tick ≤ log.gap
  pub gap_to : log.gap ≤ 3600
  pub slack : log.slack ≤ 3600
  pub max_speed_from : 1 ≤ log.max_speed
  pub max_speed_to : log.max_speed ≤ 1022
  pub max_bytes_from : 1 ≤ log.max_bytes
  pub max_bytes_to : log.max_bytes ≤ greatest_log

pub record AreDetectNumbers (tick : ℕ) (detect : Detect) : Type 0 where
  pub numbers : IsDetect detect
  pub watch : 10000 ≤ detect.watch
  pub risk : 10000 ≤ detect.risk
  pub clear : 10000 ≤ detect.clear
  pub horizon_from : 1 ≤ detect.horizon
  -- in seconds
  pub horizon_to : detect.horizon * tick ≤ 7200
  pub ahead : detect.angles.ahead ≤ 900
  pub reciprocal : detect.angles.reciprocal ≤ 900

pub record AreActNumbers (act : Act) : Type 0 where
  pub steady_turn : act.steady_turn ≤ 1800
  pub apparent_turn_from : 1 ≤ act.apparent_turn
  pub apparent_turn_to : act.apparent_turn ≤ 1800
  pub steady_speed : act.steady_speed ≤ 1022
  pub apparent_speed_from : 1 ≤ act.apparent_speed
  pub apparent_speed_to : act.apparent_speed ≤ 1022

abbrev pub IsDistance : ℕ → Type 0
IsDistance metres = (1 ≤ metres) × (metres ≤ 100000)

pub record IsOwnPart (tick : ℕ) (own : OwnPart) : Type 0 where
  pub mmsi : IsShip own.mmsi
  -- in seconds
  pub plan_time : positions_of own.lattice * tick ≤ 7200
  pub base : own.base ≤ 100000
  pub lengths : own.lengths ≤ 100
  pub range : IsDistance own.range
  pub predict : ArePredictions tick own.mmsi own.predict

pub record IsInRange (scenario : Scenario) : Type 0 where
  pub window : IsWindow scenario.window
  pub log : AreLogNumbers scenario.window.tick scenario.log
  pub detect : AreDetectNumbers scenario.window.tick scenario.detect
  pub act : AreActNumbers scenario.act
  pub rules : AreLightRules scenario.rules
  pub subjects : All IsShip scenario.subjects
  pub few_subjects : length scenario.subjects ≤ 64
  pub own : IfSome scenario.own (IsOwnPart scenario.window.tick)
