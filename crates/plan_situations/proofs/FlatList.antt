-- The plans one after the other.
use Rattle.std.proofs.Common.{◌≡◌, ◌∙◌, ℕ, zero, suc, ◌+◌, ◌-◌, ◌<◌, ◌≤◌, inl, inr, List, [], ◌∷◌, ◌++◌, length, map, get_or, sym, ap, subst, arith}
use Rattle.std.proofs.lemmas.Bool.{cases_lt}
use Rattle.std.proofs.lemmas.List.{get_or_default, map-append, length-map}
use Rattle.std.specs.Prelude.{Option, slice_get, IsSomeAnd}
use Rattle.mtl_formulas.specs.FormulaTree.{FormulaTree}
use Rattle.mtl_formulas.specs.Traces.{Trace}
use Rattle.rule_set.specs.NamedTrees.{NamedTree}
use Rattle.encounters.specs.declared.pair_step.PairStep.{PairStep}
use Rattle.meetings.specs.Answers.{Kept, answer_of}
use Rattle.meetings.specs.Atoms.{AreAtomRows, IsAtomRow}
use Rattle.meetings.specs.Traces.{IsContactAt, step_at, steps_from}
use Rattle.meetings.proofs.ForCallers.{rows_then, steps_from-last, steps_from-length}
use Rattle.meetings.specs.Ranks.{all_power_driven}
use Rattle.meetings.specs.Terms.{Terms}
use Rattle.motion.specs.declared.leg.TickState.{TickState}
use Rattle.plan_situations.specs.FailingPlans.{AreTraceRows, BeginsAt, BreaksARule, IsNewlyBroken, NewlyBreaks, Some_}
use Rattle.plan_situations.specs.Situations.{now_of, own_at, target_at}
use Rattle.plan_situations.specs.declared.situation.Situation.{Situation}
use Rattle.plan_situations.specs.declared.situation.Target.{Target}
use Rattle.plan_situations.proofs.Lifting.{one_start, one_trace, some_weaker}

-- ---- of some element

pub some_here : {X : Type 0} (P : X → Type 0) (xs : List X) (k : ℕ) (d : X) → k < length xs → P (get_or xs k d) → Some_ P xs
some_here P [] k d lt h = absurd (omega arith)
some_here P (x ∷ xs) zero d lt h = (zero, h)
some_here P (x ∷ xs) (suc k) d lt h = let inner = some_here P xs k d (omega arith) h in (suc inner.0, inner.1)

pub some_at : {X : Type 0} (P : X → Type 0) (xs : List X) → Some_ P xs → (k : ℕ) × ((k < length xs) × ((d : X) → P (get_or xs k d)))
some_at {X} P xs (k, h) = (k, there xs k h)
  where
    there : (xs : List X) (k : ℕ) → IsSomeAnd (slice_get xs k) P → (k < length xs) × ((d : X) → P (get_or xs k d))
    there [] k h = absurd h
    there (x ∷ xs) zero h = (omega arith, λ d. h)
    there (x ∷ xs) (suc k) h = let inner = there xs k h in let lt = inner.0 in (omega arith, inner.1)

pub none_some : {X : Type 0} (P : X → Type 0) (xs : List X) → ((k : ℕ) (d : X) → k < length xs → ¬ P (get_or xs k d)) → ¬ Some_ P xs
none_some {X} P xs none h = let found = some_at P xs h in absurd (none_at found.0 found.1.0 found.1.1)
  where
    by : (ys : List X) (k : ℕ) → k < length ys → ((k : ℕ) (d : X) → k < length ys → ¬ P (get_or ys k d)) → ((d : X) → P (get_or ys k d)) → ⊥
    by [] k lt none f = absurd (omega arith)
    by (y ∷ ys) k lt none f = none k y lt (f y)

    none_at : (k : ℕ) → k < length xs → ((d : X) → P (get_or xs k d)) → ⊥
    none_at k lt f = by xs k lt none f

-- ---- none so far

pub none_so_far : (P : ℕ → Type 0) (n : ℕ) → ((i : ℕ) → i < n → ¬ P i) → (¬ P n) → (i : ℕ) → i < n + 1 → ¬ P i
none_so_far P n before here i lt = elim (cases_lt i n) [
  | inl earlier ↦ before i earlier
  | inr last ↦ (let e : n ≡ i = omega arith in λ h. here (subst P (sym e) h))
]

-- from a number on
pub none_from : (P : ℕ → Type 0) (from n : ℕ) → ((i : ℕ) → from ≤ i → i < n → ¬ P i) → (¬ P n) → (i : ℕ) → from ≤ i → i < n + 1 → ¬ P i
none_from P from n before here i low lt = elim (cases_lt i n) [
  | inl earlier ↦ before i low earlier
  | inr last ↦ (let e : n ≡ i = omega arith in λ h. here (subst P (sym e) h))
]

pub none_so_far_of : {X : Type 0} (P : X → Type 0) (xs : List X) (n : ℕ) (x : X) → n < length xs → x ≡ get_or xs n x → ((i : ℕ) (d : X) → i < n → ¬ P (get_or xs i d)) → (¬ P x)
    → (i : ℕ) (d : X) → i < n + 1 → ¬ P (get_or xs i d)
none_so_far_of {X} P xs n x inside is before here i d lt = elim (cases_lt i n) [
  | inl earlier ↦ before i d earlier
  | inr last ↦ (let e : n ≡ i = omega arith in let same : x ≡ get_or xs i d = is ∙ (get_or_default xs n x d inside ∙ ap (λ (k : ℕ). get_or xs k d) e) in λ h. here (subst P (sym same) h))
]

-- ---- a rule over the planned trace

module _ (s : Situation) (X : List ℕ) (T : Target) (at start : ℕ) (begins : BeginsAt s X at T start) (rows : Trace) (are : AreTraceRows s X at T start rows) where
  newly : (f : FormulaTree) → IsNewlyBroken (now_of s - start) rows f → NewlyBreaks s X at T f
  newly f h = record {
    start = start;
    begins = begins;
    breaks = λ others others_are. subst (λ (r : Trace). IsNewlyBroken (now_of s - start) r f) (one_trace s X T at start rows others are others_are) h;
  }

  broken : (f : FormulaTree) → NewlyBreaks s X at T f → IsNewlyBroken (now_of s - start) rows f
  broken f h =
      let same : h.start ≡ start = one_start s X T at at h.start start h.begins begins in
      subst (λ (i : ℕ). IsNewlyBroken (now_of s - i) rows f) same (h.breaks rows (subst (λ (i : ℕ). AreTraceRows s X at T i rows) (sym same) are))

  pub rule_breaks : Some_ (λ (rule : NamedTree). IsNewlyBroken (now_of s - start) rows rule.tree) s.rules → BreaksARule s X at T
  rule_breaks h = some_weaker (λ (rule : NamedTree). IsNewlyBroken (now_of s - start) rows rule.tree) (λ (rule : NamedTree). NewlyBreaks s X at T rule.tree) s.rules (λ rule. newly rule.tree) h

  pub rule_broken : BreaksARule s X at T → Some_ (λ (rule : NamedTree). IsNewlyBroken (now_of s - start) rows rule.tree) s.rules
  rule_broken h = some_weaker (λ (rule : NamedTree). NewlyBreaks s X at T rule.tree) (λ (rule : NamedTree). IsNewlyBroken (now_of s - start) rows rule.tree) s.rules (λ rule. broken rule.tree) h

-- Without a trace none is broken.
pub no_trace : (s : Situation) (X : List ℕ) (T : Target) (at : ℕ) → ((k : ℕ) → k < at → ¬ IsContactAt (own_at s X) (target_at s T) s.detect.watch k) → ¬ BreaksARule s X at T
no_trace s X T at apart h =
    let found = some_at (λ (rule : NamedTree). NewlyBreaks s X at T rule.tree) s.rules h in
    none_of found.0 found.1.0 found.1.1
  where
    by : (rules : List NamedTree) (k : ℕ) → k < length rules → ((d : NamedTree) → NewlyBreaks s X at T (get_or rules k d).tree) → ⊥
    by [] k lt f = absurd (omega arith)
    by (r ∷ rules) k lt f = let h = f r in apart h.start h.begins.before_end h.begins.contact

    none_of : (k : ℕ) → k < length s.rules → ((d : NamedTree) → NewlyBreaks s X at T (get_or s.rules k d).tree) → ⊥
    none_of k lt f = by s.rules k lt f

-- ---- rows, one after the other

pub steps_more : (a b : ℕ → Option TickState) (start k : ℕ) → start ≤ k → steps_from a b start (k + 1 - start) ≡ steps_from a b start (k - start) ++ step_at a b k ∷ []
steps_more a b start k le =
    let count : k + 1 - start ≡ (k - start) + 1 = omega arith in
    let there : start + (k - start) ≡ k = omega arith in
    ap (steps_from a b start) count ∙ (steps_from-last a b start (k - start) ∙ ap (λ (i : ℕ). steps_from a b start (k - start) ++ step_at a b i ∷ []) there)

pub rows_more : (terms : Terms) (a b : ℕ → Option TickState) (start k : ℕ) (rows new : List Kept) (row : Kept) → start ≤ k
    → AreAtomRows terms (steps_from a b start (k - start)) (map answer_of rows)
    → IsAtomRow terms (steps_from a b start (k - start) ++ step_at a b k ∷ []) (length (steps_from a b start (k - start))) (answer_of row)
    → new ≡ rows ++ row ∷ [] → AreAtomRows terms (steps_from a b start (k + 1 - start)) (map answer_of new)
rows_more terms a b start k rows new row le are is e =
    subst (λ (xs : List (Option PairStep)). AreAtomRows terms xs (map answer_of new)) (sym (steps_more a b start k le))
    (subst (λ (r : Trace). AreAtomRows terms (steps_from a b start (k - start) ++ step_at a b k ∷ []) r) (sym (ap (map answer_of) e ∙ map-append answer_of rows (row ∷ [])))
    (rows_then terms all_power_driven (steps_from a b start (k - start)) (map answer_of rows) (step_at a b k) (answer_of row) are is))

pub as_many : (terms : Terms) (a b : ℕ → Option TickState) (start k : ℕ) (rows : List Kept)
    → AreAtomRows terms (steps_from a b start (k - start)) (map answer_of rows) → length rows ≡ k - start
as_many terms a b start k rows are = sym (length-map rows answer_of) ∙ (are.count ∙ steps_from-length a b start (k - start))
