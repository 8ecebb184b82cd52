-- Prefixes of plans: the first legs, which some plans have in common.
use Rattle.std.specs.Prelude.{ℕ, ◌≡◌, ◌+◌, ◌-◌, ◌*◌, ◌^◌, ◌<◌, ◌≤◌, ◌↔◌, List, length, take, nat_lt, if◌then◌else◌}
use Rattle.lattice.specs.Grids.{Grid, choices_of, positions_of}
use Rattle.lattice.specs.PlanNumbers.{number_of, IsPlan}
use Rattle.plan_situations.specs.FailingPlans.{Fails, FailsBy}
use Rattle.plan_situations.specs.Situations.{now_of}
use Rattle.plan_situations.specs.declared.situation.Situation.{Situation}

-- how many steps this number of legs determines: the last leg is held for the tail
abbrev pub steps_told : Grid → ℕ → ℕ
steps_told grid legs = if nat_lt legs grid.legs then legs * grid.leg_ticks else positions_of grid

-- the tick up to which they determine the steps
abbrev pub reached : Situation → ℕ → ℕ
reached situation legs = now_of situation + steps_told situation.lattice legs

-- A prefix fails: in its steps a value is No that is not No at now, or a domain is entered.
abbrev pub PrefixFails : Situation → List ℕ → Type 0
PrefixFails situation prefix = FailsBy situation (reached situation (length prefix)) prefix

-- The number lies in the block of a prefix that has the number `first` and leaves `left` legs open.
pub record IsInBlock (choices left first number : ℕ) : Type 0 where
  pub from : first * choices ^ left ≤ number
  pub to : number < (first + 1) * choices ^ left

-- Every plan that extends a prefix that fails fails too, and the plans that extend it are those of one block of consecutive numbers.
pub record AreOneBlock (situation : Situation) (prefix : List ℕ) : Type 0 where
  pub fail : PrefixFails situation prefix → (plan : List ℕ) → IsPlan (choices_of situation.lattice) situation.lattice.legs plan
      → take (length prefix) plan ≡ prefix → Fails situation plan
  pub block : (plan : List ℕ) → IsPlan (choices_of situation.lattice) situation.lattice.legs plan
      → (take (length prefix) plan ≡ prefix) ↔ IsInBlock (choices_of situation.lattice) (situation.lattice.legs - length prefix)
      (number_of (choices_of situation.lattice) prefix) (number_of (choices_of situation.lattice) plan)
