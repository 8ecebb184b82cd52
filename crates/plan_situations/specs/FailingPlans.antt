-- When a plan of own ship fails. The planned trace of own ship and a target begins as any trace does, and ends with the last
-- planned tick; its values, and the steps from now on, decide what it may not do.
use Rattle.std.specs.Prelude.{ℕ, ◌≡◌, ◌≢◌, ◌-◌, ◌<◌, ◌≤◌, ◌⊎◌, List, take, slice_get, IsSomeAnd}
use Rattle.meetings.specs.Atoms.{AreAtomRows}
use Rattle.meetings.specs.Traces.{BeginsTrace, step_at, steps_from}
use Rattle.mtl_formulas.specs.FormulaTree.{FormulaTree}
use Rattle.mtl_formulas.specs.declared.verdict.Verdict.TheVariants.{No}
use Rattle.mtl_formulas.specs.Traces.{Trace, value_in}
use Rattle.plan_situations.specs.Domains.{Enters}
use Rattle.plan_situations.specs.Situations.{end_of, now_of, own_at, target_at, terms_of}
use Rattle.plan_situations.specs.declared.situation.Situation.{Situation}
use Rattle.plan_situations.specs.declared.situation.Target.{Target}

-- P holds of some element.
abbrev pub Some_ : {X : Type 0} → (X → Type 0) → List X → Type 0
Some_ P xs = (k : ℕ) × IsSomeAnd (slice_get xs k) P

-- A position has the value No over a trace, but not over the trace cut off after this many positions, if all that
-- lies beyond counts as Open.
pub record IsNewlyBrokenHere (cut : ℕ) (rows : Trace) (formula : FormulaTree) (position : ℕ) : Type 0 where
  pub broken : value_in rows formula position ≡ No
  pub not_before : value_in (take cut rows) formula position ≢ No

-- It is so at some position.
pub record IsNewlyBroken (cut : ℕ) (rows : Trace) (formula : FormulaTree) : Type 0 where
  pub position : ℕ
  pub here : IsNewlyBrokenHere cut rows formula position

-- In the step from a tick to the next own ship enters the target's domain.
abbrev pub EntersAt : Situation → List ℕ → Target → ℕ → Type 0
EntersAt situation plan target step = IsSomeAnd (step_at (own_at situation plan) (target_at situation target) step) (Enters situation target)

module _ (situation : Situation) (plan : List ℕ) (last : ℕ) (target : Target) where
  -- The trace up to a last tick begins at this one.
  abbrev pub BeginsAt : ℕ → Type 0
  BeginsAt start = BeginsTrace (own_at situation plan) (target_at situation target) situation.detect.watch last start

  -- What its steps answer to the atoms: a list of steps has exactly one list of rows (`meetings::laws::there_are_rows`, `at_most_one_row`).
  abbrev pub AreTraceRows : ℕ → Trace → Type 0
  AreTraceRows start rows =
      AreAtomRows (terms_of situation) (steps_from (own_at situation plan) (target_at situation target) start (last - start)) rows

  -- A formula is newly broken over the trace, by each list of rows of it. The cut is at now, and keeps the steps before it.
  pub record NewlyBreaks (formula : FormulaTree) : Type 0 where
    pub start : ℕ
    pub begins : BeginsAt start
    pub breaks : (rows : Trace) → AreTraceRows start rows → IsNewlyBroken (now_of situation - start) rows formula

  -- In some step from now on she enters the target's domain.
  pub record EntersDomain : Type 0 where
    pub step : ℕ
    pub from_now : now_of situation ≤ step
    pub planned : step < last
    pub enters : EntersAt situation plan target step

  -- It is newly broken at the position of a step.
  pub record BreaksAt (formula : FormulaTree) (step : ℕ) : Type 0 where
    pub start : ℕ
    pub begins : BeginsAt start
    pub from : start ≤ step
    pub before : step < last
    pub breaks : (rows : Trace) → AreTraceRows start rows → IsNewlyBrokenHere (now_of situation - start) rows formula (step - start)

  -- Some rule is newly broken.
  abbrev pub BreaksARule : Type 0
  BreaksARule = Some_ (λ rule. NewlyBreaks rule.tree) situation.rules

  -- Towards the target a plan fails in one of these ways.
  abbrev pub FailsTowards : Type 0
  FailsTowards = EntersDomain ⊎ BreaksARule

-- A plan fails by a tick if up to it she fails towards some target.
abbrev pub FailsBy : Situation → ℕ → List ℕ → Type 0
FailsBy situation last plan = Some_ (FailsTowards situation plan last) situation.targets

-- A plan fails.
abbrev pub Fails : Situation → List ℕ → Type 0
Fails situation plan = FailsBy situation (end_of situation) plan
