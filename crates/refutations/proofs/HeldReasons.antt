-- Plans that extend a prefix have the same reasons up to its horizon, and if one holds the prefix fails.
use Rattle.std.proofs.Common.{◌≡◌, ◌∙◌, ℕ, ◌+◌, ◌<◌, ◌≤◌, inl, inr, List, length, take, sym, ap, subst}
use Rattle.std.specs.Prelude.{Option, slice_index, IsSomeAnd, ◌↔◌}
use Rattle.std.proofs.lemmas.List.{get_or-take}
use Rattle.closest_approach.specs.declared.nearest.Moment.{Moment}
use Rattle.encounters.specs.declared.pair_step.PairStep.{PairStep}
use Rattle.lattice.specs.OwnMotion.{choice_in_force}
use Rattle.meetings.specs.Traces.{step_at}
use Rattle.plan_situations.specs.Domains.{Enters, IsInsideAt}
use Rattle.plan_situations.specs.FailingPlans.{Some_}
use Rattle.plan_situations.specs.Prefixes.{reached, steps_told}
use Rattle.plan_situations.specs.Reasons.{HasReason}
use Rattle.plan_situations.specs.Situations.{now_of, own_at, target_at}
use Rattle.plan_situations.specs.declared.situation.Situation.{Situation}
use Rattle.plan_situations.specs.declared.situation.Target.{Target}
use Rattle.plan_situations.proofs.ForCallers.{and_weaker, rules_agree, same_step, shared, some_weaker}
use Rattle.refutations.specs.GoodEntries.{Holds, HoldsFor, IsGood, IsInsideIn}
use Rattle.refutations.specs.declared.entry.Reason.{Reason}
use Rattle.refutations.specs.declared.entry.Reason.TheVariants.{Domain, Rule}
use Rattle.refutations.specs.declared.entry.WhyEntry.{WhyEntry}

-- ---- a prefix and the plans that extend it

inside_too : (s : Situation) (X Y : List ℕ) (n : ℕ) → ((step : ℕ) → step < n → choice_in_force s.lattice X step ≡ choice_in_force s.lattice Y step)
    → (T : Target) (last : ℕ) → ((step : ℕ) → step < last → step < now_of s + n) → (step : ℕ) (moment : Moment) → IsInsideIn s X last T step moment → IsInsideIn s Y last T step moment
inside_too s X Y n same T last told step moment h = record {
  from_now = h.from_now;
  planned = h.planned;
  instant = h.instant;
  inside = subst (λ (o : Option PairStep). IsSomeAnd o (λ pair. IsInsideAt s T pair moment.a moment.b)) (same_step s X Y n same T step (told step h.planned)) h.inside;
}

module _ (s : Situation) (some : 1 ≤ s.lattice.legs) (prefix plan : List ℕ) (extends : take (length prefix) plan ≡ prefix) (T : Target) where
  pub alike : (step : ℕ) → step < steps_told s.lattice (length prefix) → choice_in_force s.lattice prefix step ≡ choice_in_force s.lattice plan step
  alike = shared s.lattice prefix plan (length prefix) some
      (λ i lt. ap (λ (ds : List ℕ). slice_index ds i) (sym extends) ∙ get_or-take (length prefix) plan i 0 lt)

  pub reasons_agree : (reason : Reason) → HoldsFor s prefix T reason ↔ Holds s plan (reached s (length prefix)) T reason
  reasons_agree (Domain step moment) = (
    inside_too s prefix plan (steps_told s.lattice (length prefix)) alike T (reached s (length prefix)) (λ k lt. lt) step moment,
    inside_too s plan prefix (steps_told s.lattice (length prefix)) (λ k lt. sym (alike k lt)) T (reached s (length prefix)) (λ k lt. lt) step moment,
  )
  reasons_agree (Rule index step) = rules_agree s some prefix plan extends T step index

-- ---- a good entry

pub has_reason : (s : Situation) (X : List ℕ) (last : ℕ) (T : Target) (reason : Reason) → Holds s X last T reason → HasReason s X last T
has_reason s X last T (Domain step moment) h = inl (record {
  step = step;
  from_now = h.from_now;
  planned = h.planned;
  enters = and_weaker (λ (pair : PairStep). IsInsideAt s T pair moment.a moment.b) (Enters s T) (step_at (own_at s X) (target_at s T) step)
      (λ pair inside. record { a = moment.a; b = moment.b; within = h.instant.within; some = h.instant.some; inside = inside }) h.inside;
})
has_reason s X last T (Rule index step) h = inr (record { step = step; rule = index; breaks = h })

pub good_reason : (s : Situation) (entry : WhyEntry) → IsGood s entry → Some_ (HasReason s entry.prefix (reached s (length entry.prefix))) s.targets
good_reason s entry h =
    some_weaker (λ (T : Target). (T.mmsi ≡ entry.target) × HoldsFor s entry.prefix T entry.reason) (HasReason s entry.prefix (reached s (length entry.prefix))) s.targets
    (λ T both. has_reason s entry.prefix (reached s (length entry.prefix)) T entry.reason both.1) h
