-- What a plan that does not fail promises.
use Rattle.std.specs.Prelude.{ℕ, ◌≡◌, ◌-◌, ◌<◌, ◌≤◌, List, All, IfSome, take}
use Rattle.meetings.specs.Traces.{step_at}
use Rattle.mtl_formulas.specs.declared.verdict.Verdict.TheVariants.{No}
use Rattle.mtl_formulas.specs.Traces.{Trace, value_in}
use Rattle.rule_set.specs.NamedTrees.{NamedTree}
use Rattle.plan_situations.specs.Domains.{Enters}
use Rattle.plan_situations.specs.FailingPlans.{AreTraceRows, BeginsAt}
use Rattle.plan_situations.specs.Situations.{end_of, now_of, own_at, target_at}
use Rattle.plan_situations.specs.declared.situation.Situation.{Situation}
use Rattle.plan_situations.specs.declared.situation.Target.{Target}

-- In each planned step own ship stays outside the target's domain: she is inside at no rational instant of it.
abbrev pub StaysApart : Situation → List ℕ → Target → Type 0
StaysApart situation plan target = (step : ℕ) → now_of situation ≤ step → step < end_of situation →
    IfSome (step_at (own_at situation plan) (target_at situation target) step) (λ pair. ¬ Enters situation target pair)

-- Over the planned trace towards the target each value No of a rule is No at now by what was seen alone.
abbrev pub KeepsTheRules : Situation → List ℕ → Target → Type 0
KeepsTheRules situation plan target = (start : ℕ) (rows : Trace) → BeginsAt situation plan (end_of situation) target start →
    AreTraceRows situation plan (end_of situation) target start rows →
    All (λ (rule : NamedTree). (position : ℕ) → value_in rows rule.tree position ≡ No → value_in (take (now_of situation - start) rows) rule.tree position ≡ No) situation.rules

pub record IsSafe (situation : Situation) (plan : List ℕ) : Type 0 where
  pub apart : All (StaysApart situation plan) situation.targets
  pub keeps : All (KeepsTheRules situation plan) situation.targets
