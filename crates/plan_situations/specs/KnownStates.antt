-- What is known of a vessel at each time: how she was seen, and from her latest accepted report on what is predicted of her.
use Rattle.std.specs.Prelude.{ℕ, ◌==◌, nat_lt, List, [], Option, Some, None, if◌then◌else◌}
use Rattle.std.specs.List.{find}
use Rattle.motion.specs.TickStates.{state_at}
use Rattle.motion.specs.declared.leg.Leg.{Leg}
use Rattle.motion.specs.declared.leg.TickState.{TickState}
use Rattle.plan_situations.specs.Prediction.{predicted_state}
use Rattle.predictions.specs.declared.changes.Change.{Change}
use Rattle.predictions.specs.declared.predictions.Predict.{Predict}
use Rattle.tracks.specs.declared.accepted.Accepted.{Accepted}

-- the changes that are predicted of a vessel
abbrev pub changes_in : Option Predict → List Change
changes_in None = []
changes_in (Some predict) = predict.changes

abbrev pub changes_for : List Predict → ℕ → List Change
changes_for predictions mmsi = changes_in (find (λ (predict : Predict). predict.mmsi == mmsi) predictions)

-- her state at a time: before her latest accepted report on a leg that holds it, if one does
abbrev pub known_state : Accepted → List Leg → List Change → ℕ → ℕ → Option TickState
known_state latest legs changes now time = if nat_lt time latest.time then state_at time legs else Some (predicted_state latest changes now time)
