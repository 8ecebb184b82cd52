-- What a plan that does not fail promises.
use Rattle.std.proofs.Common.{◌≡◌, ◌≢◌, ℕ, ◌-◌, inl, inr, List, take, get_or, refl, Some, None}
use Rattle.std.specs.Prelude.{Option, IfSome, IsSomeAnd}
use Rattle.encounters.specs.declared.pair_step.PairStep.{PairStep}
use Rattle.meetings.specs.Traces.{step_at}
use Rattle.mtl_formulas.specs.declared.verdict.Verdict.{Verdict}
use Rattle.mtl_formulas.specs.declared.verdict.Verdict.TheVariants.{No, Open, Yes}
use Rattle.mtl_formulas.specs.Traces.{value_in}
use Rattle.rule_set.specs.NamedTrees.{NamedTree}
use Rattle.plan_situations.specs.Domains.{Enters}
use Rattle.plan_situations.specs.FailingPlans.{Fails, FailsTowards, IsNewlyBroken}
use Rattle.plan_situations.specs.Safety.{IsSafe}
use Rattle.plan_situations.specs.Situations.{end_of, now_of, own_at, target_at}
use Rattle.plan_situations.specs.declared.situation.Situation.{Situation}
use Rattle.plan_situations.specs.declared.situation.Target.{Target}
use Rattle.plan_situations.proofs.FlatList.{rule_breaks, some_here}

apart_of : (s : Situation) (T : Target) (o : Option PairStep) → (¬ IsSomeAnd o (Enters s T)) → IfSome o (λ pair. ¬ Enters s T pair)
apart_of s T None h = tt
apart_of s T (Some pair) h = h

no_unless : (v : Verdict) → (¬ (v ≢ No)) → v ≡ No
no_unless No h = refl
no_unless Open h = absurd (h (λ e. cc))
no_unless Yes h = absurd (h (λ e. cc))

pub safe : (s : Situation) (plan : List ℕ) → (¬ Fails s plan) → IsSafe s plan
safe s plan passes = record {
  apart = λ k t lt step from planned. apart_of s (get_or s.targets k t) (step_at (own_at s plan) (target_at s (get_or s.targets k t)) step)
      (λ entered. passes (some_here (FailsTowards s plan (end_of s)) s.targets k t lt (inl (record { step = step; from_now = from; planned = planned; enters = entered }))));
  keeps = λ k t lt start rows begins are rule r inside position broken. no_unless (value_in (take (now_of s - start) rows) (get_or s.rules rule r).tree position)
      (λ fresh. passes (some_here (FailsTowards s plan (end_of s)) s.targets k t lt (inr (rule_breaks s plan (get_or s.targets k t) (end_of s) start begins rows are
      (some_here (λ (x : NamedTree). IsNewlyBroken (now_of s - start) rows x.tree) s.rules rule r inside (record { position = position; here = record { broken = broken; not_before = fresh } }))))));
}
