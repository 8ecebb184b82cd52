-- Why a plan fails towards a target up to a tick: the rule that is newly broken first, and the step in which own ship first enters the target's domain.
use Rattle.std.specs.Prelude.{ℕ, ◌<◌, ◌≤◌, ◌⊎◌, List, slice_get, IsSomeAnd}
use Rattle.meetings.specs.Traces.{step_at}
use Rattle.plan_situations.specs.Domains.{IsEntry}
use Rattle.plan_situations.specs.FailingPlans.{BreaksAt, EntersAt, EntersDomain}
use Rattle.plan_situations.specs.Situations.{now_of, own_at, target_at}
use Rattle.plan_situations.specs.declared.reasons.BrokenRule.{BrokenRule}
use Rattle.plan_situations.specs.declared.reasons.DomainEntry.{DomainEntry}
use Rattle.plan_situations.specs.declared.situation.Situation.{Situation}
use Rattle.plan_situations.specs.declared.situation.Target.{Target}

module _ (situation : Situation) (plan : List ℕ) (last : ℕ) (target : Target) where
  -- The rule with this index is newly broken at the position of a step.
  abbrev pub RuleBreaksAt : ℕ → ℕ → Type 0
  RuleBreaksAt step rule = IsSomeAnd (slice_get situation.rules rule) (λ named. BreaksAt situation plan last target named.tree step)

  -- No rule is at an earlier step, and none with a lesser index at this one.
  pub record IsFirstBroken (broken : BrokenRule) : Type 0 where
    pub breaks : RuleBreaksAt broken.step broken.rule
    pub no_step_before : (step rule : ℕ) → step < broken.step → ¬ RuleBreaksAt step rule
    pub no_rule_before : (rule : ℕ) → rule < broken.rule → ¬ RuleBreaksAt broken.step rule

  -- She enters the domain in this step, at this moment, and in no step from now to it.
  pub record IsFirstEntry (entry : DomainEntry) : Type 0 where
    pub from_now : now_of situation ≤ entry.step
    pub planned : entry.step < last
    pub enters : IsSomeAnd (step_at (own_at situation plan) (target_at situation target) entry.step) (λ pair. IsEntry situation target pair entry.moment)
    pub no_step_before : (step : ℕ) → now_of situation ≤ step → step < entry.step → ¬ EntersAt situation plan target step

  -- Some rule is newly broken at the position of some step.
  pub record BreaksSomewhere : Type 0 where
    pub step : ℕ
    pub rule : ℕ
    pub breaks : RuleBreaksAt step rule

  -- There is a reason why the plan fails towards the target.
  abbrev pub HasReason : Type 0
  HasReason = EntersDomain situation plan last target ⊎ BreaksSomewhere
