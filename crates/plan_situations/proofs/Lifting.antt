-- What fails in the first steps of a plan fails under every plan that has these steps in common.
use Rattle.std.proofs.Common.{◌≡◌, ◌≢◌, ◌∙◌, ℕ, zero, suc, ◌+◌, ◌-◌, ◌<◌, ◌≤◌, inl, inr, List, [], ◌∷◌, ◌++◌, length, take, drop, refl, sym, ap, subst, arith, Some, None}
use Rattle.std.proofs.lemmas.Bool.{cases_lt}
use Rattle.std.proofs.lemmas.List.{take-append-drop}
use Rattle.std.specs.Prelude.{Option, slice_get, IsSomeAnd}
use Rattle.encounters.specs.declared.pair_step.PairStep.{PairStep}
use Rattle.lattice.specs.OwnMotion.{choice_in_force}
use Rattle.meetings.specs.Atoms.{AreAtomRows}
use Rattle.meetings.specs.Traces.{steps_from}
use Rattle.mtl_formulas.proofs.PrefixLaw.{Stays-value, decided-Stays}
use Rattle.mtl_formulas.proofs.Values.{value_of-past}
use Rattle.mtl_formulas.specs.FormulaTree.{FormulaTree}
use Rattle.mtl_formulas.specs.declared.atom.Atom.{Atom}
use Rattle.mtl_formulas.specs.declared.verdict.Verdict.{Verdict}
use Rattle.mtl_formulas.specs.declared.verdict.Verdict.TheVariants.{No, Open}
use Rattle.mtl_formulas.specs.Traces.{Trace, value_in}
use Rattle.rule_set.specs.NamedTrees.{NamedTree}
use Rattle.plan_situations.specs.Domains.{Enters}
use Rattle.plan_situations.specs.FailingPlans.{AreTraceRows, BeginsAt, BreaksARule, EntersDomain, FailsBy, FailsTowards, IsNewlyBroken, NewlyBreaks, Some_}
use Rattle.plan_situations.specs.Situations.{now_of, own_at, target_at, terms_of}
use Rattle.plan_situations.specs.declared.situation.Situation.{Situation}
use Rattle.plan_situations.specs.declared.situation.Target.{Target}
use Rattle.plan_situations.proofs.CommonLegs.{same_contact, same_step, same_steps}
use Rattle.meetings.proofs.ForCallers.{one_list, rows_of_front, steps_from-length, steps_from-split}
use Rattle.meetings.specs.Ranks.{all_power_driven}

-- ---- of some element

pub some_weaker : {X : Type 0} (P Q : X → Type 0) (xs : List X) → ((x : X) → P x → Q x) → Some_ P xs → Some_ Q xs
some_weaker {X} P Q xs f (k, h) = (k, at (slice_get xs k) h)
  where
    at : (o : Option X) → IsSomeAnd o P → IsSomeAnd o Q
    at None h = h
    at (Some x) h = f x h

-- ---- values

No-decided : (v : Verdict) → v ≡ No → v ≢ Open
No-decided v e = λ is_open. cc

-- If a value is No, there is a row.
pub no_within : (rows : Trace) (f : FormulaTree) (i : ℕ) → value_in rows f i ≡ No → i < length rows
no_within rows f i is_no = elim (cases_lt i (length rows)) [
  | inl lt ↦ lt
  | inr past ↦ (let is_open : value_in rows f i ≡ Open = value_of-past (λ (row : Atom → Verdict). row) rows f i past in cc)
]

-- a value No stays when more rows come
pub stays_no : (rows more : Trace) (f : FormulaTree) (i : ℕ) → value_in rows f i ≡ No → value_in (rows ++ more) f i ≡ No
stays_no rows more f i is_no = decided-Stays (value_in rows f i) (value_in (rows ++ more) f i) (Stays-value (λ row. row) rows more f i) (No-decided (value_in rows f i) is_no) ∙ is_no

-- ---- traces

-- There is one first tick of contact.
pub one_start : (s : Situation) (X : List ℕ) (T : Target) (at later start other : ℕ) → BeginsAt s X at T start → BeginsAt s X later T other → start ≡ other
one_start s X T at later start other h k =
    elim (cases_lt start other) [
      | inl lt ↦ absurd (k.least start lt h.contact)
      | inr ge ↦ elim (cases_lt other start) [
        | inl lt ↦ absurd (h.least other lt k.contact)
        | inr le ↦ omega arith
      ]
    ]

pub one_trace : (s : Situation) (X : List ℕ) (T : Target) (at start : ℕ) (rows others : Trace) → AreTraceRows s X at T start rows → AreTraceRows s X at T start others → rows ≡ others
one_trace s X T at start rows others h k = one_list (terms_of s) all_power_driven (steps_from (own_at s X) (target_at s T) start (at - start)) rows others h k

pub trace_length : (s : Situation) (X : List ℕ) (T : Target) (at start : ℕ) (rows : Trace) → AreTraceRows s X at T start rows → length rows ≡ at - start
trace_length s X T at start rows h = h.count ∙ steps_from-length (own_at s X) (target_at s T) start (at - start)

-- the rows up to an earlier tick are the first of them
pub earlier_rows : (s : Situation) (X : List ℕ) (T : Target) (at later start : ℕ) (rows : Trace) → start ≤ at → at ≤ later → AreTraceRows s X later T start rows
    → AreTraceRows s X at T start (take (at - start) rows)
earlier_rows s X T at later start rows from le h =
    let a = own_at s X in
    let b = target_at s T in
    let e : (at - start) + (later - at) ≡ later - start = omega arith in
    let front = steps_from a b start (at - start) in
    let more = steps_from a b (start + (at - start)) (later - at) in
    let split : steps_from a b start (later - start) ≡ front ++ more = ap (steps_from a b start) (sym e) ∙ steps_from-split a b start (at - start) (later - at) in
    let h' = subst (λ (steps : List (Option PairStep)). AreAtomRows (terms_of s) steps rows) split h in
    subst (λ (n : ℕ). AreAtomRows (terms_of s) front (take n rows)) (steps_from-length a b start (at - start)) (rows_of_front (terms_of s) all_power_driven front more rows h')

-- ---- from one plan to another

module _ (s : Situation) (X Y : List ℕ) (n : ℕ) (same : (step : ℕ) → step < n → choice_in_force s.lattice X step ≡ choice_in_force s.lattice Y step) (at : ℕ) (told : at ≤ now_of s + n) where
  back : (step : ℕ) → step < n → choice_in_force s.lattice Y step ≡ choice_in_force s.lattice X step
  back step lt = sym (same step lt)

  module _ (T : Target) where
    pub begins_too : (later start : ℕ) → at ≤ later → BeginsAt s X at T start → BeginsAt s Y later T start
    begins_too later start le h =
        let before = h.before_end in
        record {
          before_end = omega arith;
          contact = same_contact s X Y n same T s.detect.watch start (omega arith) h.contact;
          least = λ i lt contact. h.least i lt (same_contact s Y X n back T s.detect.watch i (omega arith) contact);
        }

    same_trace : (start : ℕ) → start ≤ at → steps_from (own_at s X) (target_at s T) start (at - start) ≡ steps_from (own_at s Y) (target_at s T) start (at - start)
    same_trace start le = same_steps s X Y n same T start (at - start) (omega arith)

    pub rows_too : (start : ℕ) (rows : Trace) → start ≤ at → AreTraceRows s X at T start rows → AreTraceRows s Y at T start rows
    rows_too start rows le h = subst (λ (steps : List (Option PairStep)). AreAtomRows (terms_of s) steps rows) (same_trace start le) h

    rows_back : (start : ℕ) (rows : Trace) → start ≤ at → AreTraceRows s Y at T start rows → AreTraceRows s X at T start rows
    rows_back start rows le h = subst (λ (steps : List (Option PairStep)). AreAtomRows (terms_of s) steps rows) (sym (same_trace start le)) h

    module _ (later : ℕ) (le : at ≤ later) (from_now : now_of s ≤ at) where
      broken_too : (f : FormulaTree) (start : ℕ) (rows : Trace) → start < at → IsNewlyBroken (now_of s - start) (take (at - start) rows) f → IsNewlyBroken (now_of s - start) rows f
      broken_too f start rows lt h =
          let front = take (at - start) rows in
          let whole : front ++ drop (at - start) rows ≡ rows = take-append-drop (at - start) rows in
          let is_no = stays_no front (drop (at - start) rows) f h.position h.here.broken in
          let fewer : now_of s - start ≤ at - start = omega arith in
          let cut : take (now_of s - start) front ≡ take (now_of s - start) rows = cut_of (now_of s - start) (at - start) rows fewer in
          record {
            position = h.position;
            here = record {
              broken = subst (λ (r : Trace). value_in r f h.position ≡ No) whole is_no;
              not_before = subst (λ (r : Trace). value_in r f h.position ≢ No) cut h.here.not_before;
            };
          }
        where
          cut_of : (i j : ℕ) (r : Trace) → i ≤ j → take i (take j r) ≡ take i r
          cut_of zero j r le = refl
          cut_of (suc i) zero r le = absurd (omega arith)
          cut_of (suc i) (suc j) [] le = refl
          cut_of (suc i) (suc j) (x ∷ r) le = ap (λ (t : Trace). x ∷ t) (cut_of i j r (omega arith))

      pub breaks_too : (f : FormulaTree) → NewlyBreaks s X at T f → NewlyBreaks s Y later T f
      breaks_too f h =
          let before = h.begins.before_end in
          record {
            start = h.start;
            begins = begins_too later h.start le h.begins;
            breaks = λ rows are. broken_too f h.start rows before
                (h.breaks (take (at - h.start) rows) (rows_back h.start (take (at - h.start) rows) (omega arith) (earlier_rows s Y T at later h.start rows (omega arith) le are)));
          }

      pub a_rule_too : BreaksARule s X at T → BreaksARule s Y later T
      a_rule_too h = some_weaker (λ (rule : NamedTree). NewlyBreaks s X at T rule.tree) (λ (rule : NamedTree). NewlyBreaks s Y later T rule.tree) s.rules (λ rule. breaks_too rule.tree) h

    pub enters_too : (later : ℕ) → at ≤ later → EntersDomain s X at T → EntersDomain s Y later T
    enters_too later le h =
        let before = h.planned in
        record {
          step = h.step;
          from_now = h.from_now;
          planned = omega arith;
          enters = subst (λ (o : Option PairStep). IsSomeAnd o (Enters s T)) (same_step s X Y n same T h.step (omega arith)) h.enters;
        }

    pub fails_towards_too : (later : ℕ) → at ≤ later → now_of s ≤ at → FailsTowards s X at T → FailsTowards s Y later T
    fails_towards_too later le from_now (inl h) = inl (enters_too later le h)
    fails_towards_too later le from_now (inr h) = inr (a_rule_too later le from_now h)

  pub fails_too : (later : ℕ) → at ≤ later → now_of s ≤ at → FailsBy s at X → FailsBy s later Y
  fails_too later le from_now h = some_weaker (FailsTowards s X at) (FailsTowards s Y later) s.targets (λ T. fails_towards_too T later le from_now) h

-- What is broken by a tick is broken by each later one.
pub breaks_later : (s : Situation) (X : List ℕ) (T : Target) (at later : ℕ) → now_of s ≤ at → at ≤ later → BreaksARule s X at T → BreaksARule s X later T
breaks_later s X T at later from_now le h =
    let told : at ≤ now_of s + (at - now_of s) = omega arith in
    a_rule_too s X X (at - now_of s) (λ step lt. refl) at told T later le from_now h
