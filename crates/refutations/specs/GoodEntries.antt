-- When an entry of a refutation is good: its reason holds over the trace that is cut at its prefix's horizon, the tick up to which the
-- prefix determines the steps.
use Rattle.std.specs.Prelude.{ℕ, ◌≡◌, ◌≤◌, ◌<◌, ◌^◌, List, length, IsSomeAnd}
use Rattle.closest_approach.specs.declared.nearest.Moment.{Moment}
use Rattle.meetings.specs.Traces.{step_at}
use Rattle.plan_situations.specs.Domains.{IsInsideAt}
use Rattle.plan_situations.specs.FailingPlans.{Some_}
use Rattle.plan_situations.specs.Prefixes.{reached}
use Rattle.plan_situations.specs.Reasons.{RuleBreaksAt}
use Rattle.plan_situations.specs.Situations.{now_of, own_at, target_at}
use Rattle.plan_situations.specs.declared.situation.Situation.{Situation}
use Rattle.plan_situations.specs.declared.situation.Target.{Target}
use Rattle.refutations.specs.declared.entry.Reason.{Reason}
use Rattle.refutations.specs.declared.entry.Reason.TheVariants.{Domain, Rule}
use Rattle.refutations.specs.declared.entry.WhyEntry.{WhyEntry}

-- It is an instant of a step, with numbers that are small enough to compute with.
pub record IsInstant (moment : Moment) : Type 0 where
  pub within : moment.a ≤ moment.b
  pub some : 0 < moment.b
  pub small : moment.b < 2 ^ 60

-- At the moment of a step own ship is inside the target's domain.
abbrev pub IsInsideThen : Situation → List ℕ → Target → ℕ → Moment → Type 0
IsInsideThen situation plan target step moment =
    IsSomeAnd (step_at (own_at situation plan) (target_at situation target) step) (λ pair. IsInsideAt situation target pair moment.a moment.b)

module _ (situation : Situation) (plan : List ℕ) (last : ℕ) (target : Target) where
  -- The step begins at now or later and ends by the last tick, and at an instant of it she is inside.
  pub record IsInsideIn (step : ℕ) (moment : Moment) : Type 0 where
    pub from_now : now_of situation ≤ step
    pub planned : step < last
    pub instant : IsInstant moment
    pub inside : IsInsideThen situation plan target step moment

  -- A reason holds towards the target under a plan, up to a last tick.
  abbrev pub Holds : Reason → Type 0
  Holds (Domain step moment) = IsInsideIn step moment
  Holds (Rule index step) = RuleBreaksAt situation plan last target step index

-- It holds for a prefix: up to its horizon.
abbrev pub HoldsFor : Situation → List ℕ → Target → Reason → Type 0
HoldsFor situation prefix target reason = Holds situation prefix (reached situation (length prefix)) target reason

-- An entry is good: its target is one of the situation's, towards which its reason holds for its prefix.
abbrev pub IsGood : Situation → WhyEntry → Type 0
IsGood situation entry = Some_ (λ target. (target.mmsi ≡ entry.target) × HoldsFor situation entry.prefix target entry.reason) situation.targets
