-- The predictions of other vessels: their changes, and the ranges of these.
use Rattle.std.specs.Prelude.{◌≡◌, ◌≢◌, ℕ, ◌≤◌, ◌<◌, ◌%◌, codes, List, length, map, All, AllPairs, Option, Some, None}
use Rattle.toml.specs.Data.{Data}
use Rattle.scenario_keys.specs.KeyValues.{array_in, list_in, member_at, natural_of}
use Rattle.predictions.specs.PredictFaults.{predicted_mmsi, change_numbers_at}
use Rattle.predictions.specs.declared.changes.Change.{Change}
use Rattle.predictions.specs.declared.changes.ChangeNumbers.{ChangeNumbers}
use Rattle.predictions.specs.declared.predictions.Predict.{Predict}

abbrev pub change_of : Option ChangeNumbers → Change
change_of None = record { after = 0; course = 0; speed = 0 }
change_of (Some numbers) = record {
  after = natural_of (Some numbers.after);
  course = natural_of (Some numbers.course);
  speed = natural_of (Some numbers.speed);
}

abbrev pub predicted_changes : Option Data → List Change
predicted_changes found = map (λ inner. change_of (change_numbers_at inner)) (list_in (array_in found))

abbrev pub predict_of : Data → Predict
predict_of here = record { mmsi = predicted_mmsi here; changes = predicted_changes (member_at (codes "changes") here) }

-- one per table, in order
abbrev pub predictions_of : List Data → List Predict
predictions_of tables = map predict_of tables

-- The times are multiples of the tick, and each change is later than the previous one.
pub record AreTimed (tick : ℕ) (changes : List Change) : Type 0 where
  pub some : 1 ≤ length changes
  pub few : length changes ≤ 16
  pub after : All (λ (c : Change). (c.after ≤ 7200) × (c.after % tick ≡ 0)) changes
  pub course : All (λ (c : Change). c.course ≤ 3599) changes
  pub speed : All (λ (c : Change). c.speed ≤ 1022) changes
  pub order : AllPairs (λ (c d : Change). c.after < d.after) changes

-- At most 64 ships (ITU-R M.585), none of them own ship, and none twice.
pub record ArePredictions (tick own : ℕ) (list : List Predict) : Type 0 where
  pub few : length list ≤ 64
  pub ships : All (λ (p : Predict). (200000000 ≤ p.mmsi) × (p.mmsi ≤ 799999999)) list
  pub others : All (λ (p : Predict). p.mmsi ≢ own) list
  pub different : AllPairs (λ (p q : Predict). p.mmsi ≢ q.mmsi) list
  pub changes : All (λ (p : Predict). AreTimed tick p.changes) list
