-- Reasons over the planned trace towards a target.
use Rattle.std.proofs.Common.{◌≡◌, ℕ, ◌+◌, ◌-◌, ◌≤◌, ◌⊎◌, inl, inr, List, sym, subst, Bool, false, arith, Some, None}
use Rattle.std.specs.Prelude.{Option, slice_get, IsSomeAnd, IsTrue, MatchOption, ◌↔◌, is_some}
use Rattle.encounters.specs.declared.pair_step.PairStep.{PairStep}
use Rattle.meetings.specs.Traces.{step_at}
use Rattle.mtl_formulas.specs.FormulaTree.{FormulaTree}
use Rattle.mtl_formulas.specs.Traces.{Trace}
use Rattle.rule_set.specs.NamedTrees.{NamedTree, rule_at}
use Rattle.plan_situations.specs.Domains.{Enters, IsEntry}
use Rattle.plan_situations.specs.FailingPlans.{AreTraceRows, BeginsAt, BreaksARule, BreaksAt, EntersDomain, IsNewlyBroken, IsNewlyBrokenHere, NewlyBreaks}
use Rattle.plan_situations.specs.Inner.FirstBroken.{IsFirstOfAll, IsRuleBroken}
use Rattle.plan_situations.specs.Reasons.{IsFirstBroken, IsFirstEntry, RuleBreaksAt}
use Rattle.plan_situations.specs.Situations.{now_of, own_at, target_at}
use Rattle.plan_situations.specs.declared.reasons.DomainEntry.{DomainEntry}
use Rattle.plan_situations.specs.declared.situation.Situation.{Situation}
use Rattle.plan_situations.specs.declared.situation.Target.{Target}
use Rattle.plan_situations.proofs.Entries.{entry_enters}
use Rattle.plan_situations.proofs.FirstBroken.{rule_known, rule_there}
use Rattle.plan_situations.proofs.FlatList.{rule_broken}
use Rattle.plan_situations.proofs.Lifting.{no_within, one_start, one_trace, trace_length}

pub and_weaker : {X : Type 0} (P Q : X → Type 0) (o : Option X) → ((x : X) → P x → Q x) → IsSomeAnd o P → IsSomeAnd o Q
and_weaker P Q None f h = h
and_weaker P Q (Some x) f h = f x h

pub found_where_some : {X : Type 0} (A : Type 0) (P : X → Type 0) (o : Option X) (b : Bool) → b ≡ is_some o → ((x : X) → P x → A) → MatchOption o (¬ A) P → IsTrue b ↔ A
found_where_some A P None b e f h = (λ t. cc, λ a. absurd (h a))
found_where_some A P (Some x) b e f h = (λ t. f x h, λ a. cc)

pub second_alone : (A B : Type 0) (b c : Bool) → IsTrue b ↔ A → b ≡ false → IsTrue c ↔ B → IsTrue c ↔ (A ⊎ B)
second_alone A B b c h e k = (λ t. inr (k.0 t), λ either. elim either [ inl a ↦ (let t = h.1 a in cc) | inr x ↦ k.1 x ])

pub through : {A P Q : Type 0} → A ↔ P → P ↔ Q → A ↔ Q
through f g = (λ a. g.0 (f.0 a), λ q. f.1 (g.1 q))

-- ---- from a position to its step, and back

module _ (s : Situation) (X : List ℕ) (T : Target) (at : ℕ) where
  newly_of : (f : FormulaTree) (step : ℕ) → BreaksAt s X at T f step → NewlyBreaks s X at T f
  newly_of f step h = record {
    start = h.start;
    begins = h.begins;
    breaks = λ rows are. record { position = step - h.start; here = h.breaks rows are };
  }

  pub rule_reason : (step rule : ℕ) → RuleBreaksAt s X at T step rule → BreaksARule s X at T
  rule_reason step rule h =
      (rule, and_weaker (λ (named : NamedTree). BreaksAt s X at T named.tree step) (λ (named : NamedTree). NewlyBreaks s X at T named.tree) (slice_get s.rules rule) (λ named. newly_of named.tree step) h)

  pub entry_reason : (entry : DomainEntry) → IsFirstEntry s X at T entry → EntersDomain s X at T
  entry_reason entry h = record {
    step = entry.step;
    from_now = h.from_now;
    planned = h.planned;
    enters = and_weaker (λ (pair : PairStep). IsEntry s T pair entry.moment) (Enters s T) (step_at (own_at s X) (target_at s T) entry.step) (λ pair. entry_enters s T pair entry.moment) h.enters;
  }

  module _ (start : ℕ) (begins : BeginsAt s X at T start) (rows : Trace) (are : AreTraceRows s X at T start rows) where
    pub breaks_at : (f : FormulaTree) (position : ℕ) → IsNewlyBrokenHere (now_of s - start) rows f position → BreaksAt s X at T f (start + position)
    breaks_at f position h =
        let within = no_within rows f position h.broken in
        let long = trace_length s X T at start rows are in
        let early = begins.before_end in
        let e : position ≡ (start + position) - start = omega arith in
        record {
          start = start;
          begins = begins;
          from = omega arith;
          before = omega arith;
          breaks = λ others others_are. subst (λ (i : ℕ). IsNewlyBrokenHere (now_of s - start) others f i) e
              (subst (λ (r : Trace). IsNewlyBrokenHere (now_of s - start) r f position) (one_trace s X T at start rows others are others_are) h);
        }

    pub broken_at : (f : FormulaTree) (step : ℕ) → BreaksAt s X at T f step → (start ≤ step) × IsNewlyBrokenHere (now_of s - start) rows f (step - start)
    broken_at f step h =
        let same : h.start ≡ start = one_start s X T at at h.start start h.begins begins in
        let from = h.from in (
          omega arith,
          subst (λ (i : ℕ). IsNewlyBrokenHere (now_of s - i) rows f (step - i)) same (h.breaks rows (subst (λ (i : ℕ). AreTraceRows s X at T i rows) (sym same) are)),
        )

    -- A step that is not before the trace is one of its positions, and the formula is newly broken there exactly if its rows say so.
    pub broken_there : (f : FormulaTree) (step : ℕ) → start ≤ step → IsNewlyBrokenHere (now_of s - start) rows f (step - start) ↔ BreaksAt s X at T f step
    broken_there f step le = (
      λ h. (let e : start + (step - start) ≡ step = omega arith in
          subst (λ (k : ℕ). BreaksAt s X at T f k) e (breaks_at f (step - start) h)),
      λ h. (broken_at f step h).1,
    )

    pub rule_broken_at : (step rule : ℕ) → RuleBreaksAt s X at T step rule → (start ≤ step) × IsRuleBroken s.rules (now_of s - start) rows (step - start) rule
    rule_broken_at step rule h =
        let there = rule_there s.rules (λ (f : FormulaTree). BreaksAt s X at T f step) rule h in
        let back = broken_at (rule_at s.rules rule).tree step there.1 in
        (back.0, rule_known s.rules (λ (f : FormulaTree). IsNewlyBrokenHere (now_of s - start) rows f (step - start)) rule there.0 back.1)

    pub rule_breaks_at : (position rule : ℕ) → IsRuleBroken s.rules (now_of s - start) rows position rule → RuleBreaksAt s X at T (start + position) rule
    rule_breaks_at position rule h =
        and_weaker (λ (named : NamedTree). IsNewlyBrokenHere (now_of s - start) rows named.tree position) (λ (named : NamedTree). BreaksAt s X at T named.tree (start + position)) (slice_get s.rules rule)
        (λ named. breaks_at named.tree position) h

    pub first_of_all : (position rule : ℕ) → IsFirstOfAll s.rules (now_of s - start) rows position rule → IsFirstBroken s X at T (record { step = start + position; rule = rule })
    first_of_all position rule h = record {
      breaks = rule_breaks_at position rule h.there.broken;
      no_step_before = λ step other less breaks.
          let back = rule_broken_at step other breaks in
          let from = back.0 in
          h.no_position_before (step - start) other (omega arith) back.1;
      no_rule_before = λ other less breaks.
          let back = rule_broken_at (start + position) other breaks in
          let e : (start + position) - start ≡ position = omega arith in
          h.there.no_rule_before other less (subst (λ (i : ℕ). IsRuleBroken s.rules (now_of s - start) rows i other) e back.1);
    }

    pub none_breaks : ((position rule : ℕ) → ¬ IsRuleBroken s.rules (now_of s - start) rows position rule) → ¬ BreaksARule s X at T
    none_breaks none h =
        let found = rule_broken s X T at start begins rows are h in
        let there = rule_there s.rules (λ (f : FormulaTree). IsNewlyBroken (now_of s - start) rows f) found.0 found.1 in
        none there.1.position found.0 (rule_known s.rules (λ (f : FormulaTree). IsNewlyBrokenHere (now_of s - start) rows f there.1.position) found.0 there.0 there.1.here)
