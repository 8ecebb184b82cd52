-- Definitions that no public clause cites.
use Rattle.std.specs.Prelude.{ℕ, ◌≡◌, Bool, true, codes, ℤ, int_lt, List, Option, Some, None}
use Rattle.toml.specs.Data.{Data}
use Rattle.scenario_keys.specs.IntegerFaults.{number_cause}
use Rattle.scenario_keys.specs.KeyValues.{member_at}
use Rattle.predictions.specs.PredictFaults.{ascend, ascend_from, changes_cause, ships}

abbrev pub exceeds : Option ℤ → ℤ → Bool
exceeds None number = true
exceeds (Some before) number = int_lt before number

-- the rest of a list ascends, after its latest element
abbrev pub ascend_behind : Option ℤ → List ℤ → Bool
ascend_behind None rest = ascend rest
ascend_behind (Some before) rest = ascend_from before rest

-- The value has changes without a fault at some tick.
abbrev pub AreReadable : Option Data → Type 0
AreReadable found = (tick : ℕ) × (changes_cause tick found ≡ None)

-- The table has a ship and changes without a fault.
pub record IsReadable (here : Data) : Type 0 where
  pub ship : number_cause ships (member_at (codes "mmsi") here) ≡ None
  pub changes : AreReadable (member_at (codes "changes") here)
