-- A plan that fails has a reason, and plans that have their first legs in common have the same reasons in these.
use Rattle.std.proofs.Common.{◌≡◌, ◌∙◌, ℕ, ◌+◌, ◌<◌, ◌≤◌, inl, inr, List, length, take, sym, ap, subst, arith}
use Rattle.std.specs.Prelude.{Option, slice_get, slice_index, IsSomeAnd, ◌↔◌}
use Rattle.std.proofs.lemmas.List.{get_or-take}
use Rattle.encounters.specs.declared.pair_step.PairStep.{PairStep}
use Rattle.lattice.specs.OwnMotion.{choice_in_force}
use Rattle.mtl_formulas.specs.FormulaTree.{FormulaTree}
use Rattle.mtl_formulas.specs.Traces.{Trace}
use Rattle.rule_set.specs.NamedTrees.{NamedTree, rule_at}
use Rattle.plan_situations.specs.Domains.{Enters}
use Rattle.plan_situations.specs.FailingPlans.{AreTraceRows, BreaksAt, EntersAt, FailsBy, FailsTowards, NewlyBreaks, Some_}
use Rattle.plan_situations.specs.Prefixes.{reached, steps_told}
use Rattle.plan_situations.specs.Reasons.{HasReason, RuleBreaksAt}
use Rattle.plan_situations.specs.Situations.{now_of}
use Rattle.plan_situations.specs.declared.situation.Situation.{Situation}
use Rattle.plan_situations.specs.declared.situation.Target.{Target}
use Rattle.plan_situations.proofs.Blocks.{shared}
use Rattle.plan_situations.proofs.CommonLegs.{same_step}
use Rattle.plan_situations.proofs.FirstBroken.{rule_known, rule_there}
use Rattle.plan_situations.proofs.Lifting.{begins_too, rows_too, some_weaker}
use Rattle.plan_situations.proofs.FirstReasons.{and_weaker, breaks_at, rule_reason}

-- ---- a reason

module _ (s : Situation) (X : List ℕ) (last : ℕ) (some_rows : (T : Target) (start : ℕ) → (rows : Trace) × AreTraceRows s X last T start rows) where
  step_of : (T : Target) (f : FormulaTree) → NewlyBreaks s X last T f → (step : ℕ) × BreaksAt s X last T f step
  step_of T f h =
      let found = some_rows T h.start in
      let broken = h.breaks found.0 found.1 in
      (h.start + broken.position, breaks_at s X T last h.start h.begins found.0 found.1 f broken.position broken.here)

  reason_of : (T : Target) → FailsTowards s X last T → HasReason s X last T
  reason_of T (inl enters) = inl enters
  reason_of T (inr (rule, h)) =
      let there = rule_there s.rules (NewlyBreaks s X last T) rule h in
      let found = step_of T (rule_at s.rules rule).tree there.1 in
      inr (record { step = found.0; rule = rule; breaks = rule_known s.rules (λ (f : FormulaTree). BreaksAt s X last T f found.0) rule there.0 found.1 })

  fails_by : (T : Target) → HasReason s X last T → FailsTowards s X last T
  fails_by T (inl enters) = inl enters
  fails_by T (inr h) = inr (rule_reason s X T last h.step h.rule h.breaks)

  pub failing_reason : FailsBy s last X ↔ Some_ (HasReason s X last) s.targets
  failing_reason = (
    λ h. some_weaker (FailsTowards s X last) (HasReason s X last) s.targets reason_of h,
    λ h. some_weaker (HasReason s X last) (FailsTowards s X last) s.targets fails_by h,
  )

-- ---- steps in common

module _ (s : Situation) (X Y : List ℕ) (n : ℕ) (same : (step : ℕ) → step < n → choice_in_force s.lattice X step ≡ choice_in_force s.lattice Y step) (T : Target) where
  pub enters_at_too : (step : ℕ) → step < now_of s + n → EntersAt s X T step → EntersAt s Y T step
  enters_at_too step lt h = subst (λ (o : Option PairStep). IsSomeAnd o (Enters s T)) (same_step s X Y n same T step lt) h

  pub breaks_at_too : (last : ℕ) → last ≤ now_of s + n → (f : FormulaTree) (step : ℕ) → BreaksAt s X last T f step → BreaksAt s Y last T f step
  breaks_at_too last told f step h =
      let early = h.begins.before_end in
      record {
        start = h.start;
        begins = begins_too s X Y n same last told T last h.start (omega arith) h.begins;
        from = h.from;
        before = h.before;
        breaks = λ rows are. h.breaks rows (rows_too s Y X n (λ i lt. sym (same i lt)) last told T h.start rows (omega arith) are);
      }

  pub rule_breaks_too : (last : ℕ) → last ≤ now_of s + n → (step rule : ℕ) → RuleBreaksAt s X last T step rule → RuleBreaksAt s Y last T step rule
  rule_breaks_too last told step rule h =
      and_weaker (λ (named : NamedTree). BreaksAt s X last T named.tree step) (λ (named : NamedTree). BreaksAt s Y last T named.tree step) (slice_get s.rules rule)
      (λ named. breaks_at_too last told named.tree step) h

-- ---- a prefix and the plans that extend it

module _ (s : Situation) (some : 1 ≤ s.lattice.legs) (prefix plan : List ℕ) (extends : take (length prefix) plan ≡ prefix) (T : Target) where
  alike : (step : ℕ) → step < steps_told s.lattice (length prefix) → choice_in_force s.lattice prefix step ≡ choice_in_force s.lattice plan step
  alike = shared s.lattice prefix plan (length prefix) some
      (λ i lt. ap (λ (ds : List ℕ). slice_index ds i) (sym extends) ∙ get_or-take (length prefix) plan i 0 lt)

  back : (step : ℕ) → step < steps_told s.lattice (length prefix) → choice_in_force s.lattice plan step ≡ choice_in_force s.lattice prefix step
  back step lt = sym (alike step lt)

  pub entries_agree : (step : ℕ) → step < reached s (length prefix) → EntersAt s prefix T step ↔ EntersAt s plan T step
  entries_agree step lt = (
    enters_at_too s prefix plan (steps_told s.lattice (length prefix)) alike T step lt,
    enters_at_too s plan prefix (steps_told s.lattice (length prefix)) back T step lt,
  )

  pub rules_agree : (step rule : ℕ) → RuleBreaksAt s prefix (reached s (length prefix)) T step rule ↔ RuleBreaksAt s plan (reached s (length prefix)) T step rule
  rules_agree step rule = (
    rule_breaks_too s prefix plan (steps_told s.lattice (length prefix)) alike T (reached s (length prefix)) (omega arith) step rule,
    rule_breaks_too s plan prefix (steps_told s.lattice (length prefix)) back T (reached s (length prefix)) (omega arith) step rule,
  )
