-- What is kept of a target, step by step.
use Rattle.std.proofs.lemmas.List.{length-map}
use Rattle.std.proofs.Common.{◌≡◌, ◌≢◌, ◌∙◌, ℕ, zero, suc, ◌+◌, ◌-◌, ◌^◌, ◌<◌, ◌≤◌, inl, inr, List, [], ◌∷◌, ◌++◌, length, map, take, refl, sym, ap, subst, arith, Some, Bool, true, false, length-take}
use Rattle.std.proofs.lemmas.Bool.{cases_lt}
use Rattle.std.specs.Prelude.{Option, slice_get, IsSomeAnd, IsTrue, ◌||◌, ◌↔◌}
use Rattle.encounters.specs.declared.pair_step.PairStep.{PairStep}
use Rattle.meetings.specs.Atoms.{AreAtomRows, IsAtomRow}
use Rattle.meetings.specs.Standing as meetings
use Rattle.meetings.specs.Traces.{IsContactAt, step_at, steps_from}
use Rattle.meetings.proofs.ForCallers.{rows_then, steps_from-last, steps_from-length}
use Rattle.meetings.specs.Ranks.{all_power_driven}
use Rattle.mtl_formulas.proofs.ReachLaw.{equal-AgreeAt, value_of-same}
use Rattle.mtl_formulas.specs.FormulaMeasures.{reach_of}
use Rattle.mtl_formulas.specs.FormulaTree.{FormulaTree}
use Rattle.mtl_formulas.specs.declared.atom.Atom.{Atom}
use Rattle.mtl_formulas.specs.declared.verdict.Verdict.{Verdict}
use Rattle.mtl_formulas.specs.declared.verdict.Verdict.TheVariants.{No}
use Rattle.mtl_monitor.specs.Following as monitor
use Rattle.mtl_monitor.specs.Reaches.{greatest_reach}
use Rattle.mtl_formulas.specs.Traces.{Trace, value_in}
use Rattle.mtl_monitor.specs.declared.program.Program.{Program}
use Rattle.rule_set.specs.NamedTrees.{NamedTree}
use Rattle.plan_situations.specs.FailingPlans.{AreTraceRows, BeginsAt, BreaksARule, NewlyBreaks}
use Rattle.planner.specs.Inner.Breaking.{IsNewlyBrokenAt, formulas_of}
use Rattle.planner.specs.Inner.Watching.{HasBegun, HasNotBegun, IsCutAtNow, IsUnbroken, Stands, StandsFor}
use Rattle.plan_situations.specs.Situations.{now_of, own_at, target_at, terms_of}
use Rattle.plan_situations.specs.declared.situation.Situation.{Situation}
use Rattle.plan_situations.specs.declared.situation.Target.{Target}
use Rattle.planner.specs.declared.watched.Watched.{Watched}
use Rattle.plan_situations.proofs.Lifting.{earlier_rows, no_within, one_start, one_trace, trace_length}

-- ---- formulas of the rules

pub tree_at : (rules : List NamedTree) (k : ℕ) (r : NamedTree) → slice_get rules k ≡ Some r → monitor.formula_at (map (λ (rule : NamedTree). rule.tree) rules) k ≡ r.tree
tree_at [] k r e = cc
tree_at (x ∷ rules) zero r e = let same : x ≡ r = cc in ap (λ (rule : NamedTree). rule.tree) same
tree_at (x ∷ rules) (suc k) r e = tree_at rules k r e

pub rule_there : (rules : List NamedTree) (P : FormulaTree → Type 0) (k : ℕ) → k < length rules → P (monitor.formula_at (map (λ (rule : NamedTree). rule.tree) rules) k)
    → IsSomeAnd (slice_get rules k) (λ (rule : NamedTree). P rule.tree)
rule_there [] P k lt h = absurd (omega arith)
rule_there (x ∷ rules) P zero lt h = h
rule_there (x ∷ rules) P (suc k) lt h = rule_there rules P k (omega arith) h

pub rule_known : (rules : List NamedTree) (P : FormulaTree → Type 0) (k : ℕ) → IsSomeAnd (slice_get rules k) (λ (rule : NamedTree). P rule.tree)
    → (k < length rules) × P (monitor.formula_at (map (λ (rule : NamedTree). rule.tree) rules) k)
rule_known [] P k h = absurd h
rule_known (x ∷ rules) P zero h = (omega arith, h)
rule_known (x ∷ rules) P (suc k) h = let inner = rule_known rules P k h in let lt = inner.0 in (omega arith, inner.1)

pub within_greatest : (formulas : List FormulaTree) (k : ℕ) → k < length formulas → reach_of (monitor.formula_at formulas k) ≤ greatest_reach formulas
within_greatest [] k lt = absurd (omega arith)
within_greatest (f ∷ formulas) zero lt = omega arith
within_greatest (f ∷ formulas) (suc k) lt = let h = within_greatest formulas k (omega arith) in omega arith

-- ---- values

taken : (rows : Trace) (n k : ℕ) → k < n → slice_get (take n rows) k ≡ slice_get rows k
taken [] zero k lt = absurd (omega arith)
taken [] (suc n) k lt = refl
taken (x ∷ rows) zero k lt = absurd (omega arith)
taken (x ∷ rows) (suc n) zero lt = refl
taken (x ∷ rows) (suc n) (suc k) lt = taken rows n k (omega arith)

-- The first rows give a value that looks no further.
pub told_by_front : (rows : Trace) (n : ℕ) (f : FormulaTree) (i : ℕ) → i + reach_of f < n → value_in (take n rows) f i ≡ value_in rows f i
told_by_front rows n f i lt =
    value_of-same (λ (row : Atom → Verdict). row) (take n rows) (λ (row : Atom → Verdict). row) rows f i
    (λ k le. equal-AgreeAt (λ (row : Atom → Verdict). row) (take n rows) rows k (taken rows n k (omega arith)))

pub broken_in_front : (formulas : List FormulaTree) (cut rows : Trace) (n passed : ℕ) → passed ≤ n → IsNewlyBrokenAt formulas cut rows passed → IsNewlyBrokenAt formulas cut (take n rows) passed
broken_in_front formulas cut rows n passed le h =
    let decided = h.at.decided in
    record {
      rule = h.rule;
      known = h.known;
      at = record { position = h.at.position; decided = decided; broken = told_by_front rows n (monitor.formula_at formulas h.rule) h.at.position (omega arith) ∙ h.at.broken };
      not_before = h.not_before;
    }

-- ---- a step

module _ (program : Program) (s : Situation) (X : List ℕ) (T : Target) (at : ℕ) (w next : Watched) where
  -- One more row was fed.
  pub record IsFedOn (steps : List (Option PairStep)) (rows : Trace) : Type 0 where
    pub row : Atom → Verdict
    pub is_row : IsAtomRow (terms_of s) (steps ++ step_at (own_at s X) (target_at s T) at ∷ []) (length steps) row
    pub follows : meetings.Follows next.follower (terms_of s) (steps ++ step_at (own_at s X) (target_at s T) at ∷ [])
    pub values : monitor.Follows program next.values (formulas_of s) (rows ++ row ∷ [])

  abbrev pub FeedsOn : Type 0
  FeedsOn = (steps : List (Option PairStep)) (rows : Trace) → length steps < 2 ^ 31 → meetings.Follows w.follower (terms_of s) steps
      → monitor.Follows program w.values (formulas_of s) rows → IsFedOn steps rows

  steps_on : (start : ℕ) → start ≤ at → steps_from (own_at s X) (target_at s T) start (at + 1 - start)
      ≡ steps_from (own_at s X) (target_at s T) start (at - start) ++ step_at (own_at s X) (target_at s T) at ∷ []
  steps_on start le =
      let a = own_at s X in
      let b = target_at s T in
      let count : at + 1 - start ≡ (at - start) + 1 = omega arith in
      let there : start + (at - start) ≡ at = omega arith in
      ap (steps_from a b start) count ∙ (steps_from-last a b start (at - start)
      ∙ ap (λ (k : ℕ). steps_from a b start (at - start) ++ step_at a b k ∷ []) there)

  fed_at : (start : ℕ) (rows : Trace) → start ≤ at → AreTraceRows s X at T start rows → IsFedOn (steps_from (own_at s X) (target_at s T) start (at - start)) rows
      → BeginsAt s X (at + 1) T start → HasBegun program s X T (at + 1) next
  fed_at start rows le are fed begins =
      let steps = steps_from (own_at s X) (target_at s T) start (at - start) in
      let here = step_at (own_at s X) (target_at s T) at in
      record {
        start = start;
        rows = rows ++ fed.row ∷ [];
        begins = begins;
        are_rows = subst (λ (xs : List (Option PairStep)). AreAtomRows (terms_of s) xs (rows ++ fed.row ∷ [])) (sym (steps_on start le))
            (rows_then (terms_of s) all_power_driven steps rows here fed.row are fed.is_row);
        follows = subst (λ (xs : List (Option PairStep)). meetings.Follows next.follower (terms_of s) xs) (sym (steps_on start le)) fed.follows;
        values = fed.values;
      }

  goes_on : HasBegun program s X T at w → monitor.fed_of w.values < 2 ^ 31 → FeedsOn → HasBegun program s X T (at + 1) next
  goes_on h few feeds =
      let before = h.begins.before_end in
      let fed = h.values.all_fed in
      let long = trace_length s X T at h.start h.rows h.are_rows in
      let count = steps_from-length (own_at s X) (target_at s T) h.start (at - h.start) in
      fed_at h.start h.rows (omega arith) h.are_rows
      (feeds (steps_from (own_at s X) (target_at s T) h.start (at - h.start)) h.rows (omega arith) h.follows h.values)
      (record { before_end = omega arith; contact = h.begins.contact; least = h.begins.least })

  none : at - at ≡ 0
  none = omega arith

  begins_here : HasNotBegun program s X T at w → IsContactAt (own_at s X) (target_at s T) s.detect.watch at → FeedsOn → HasBegun program s X T (at + 1) next
  begins_here h contact feeds =
      let a = own_at s X in
      let b = target_at s T in
      let empty : steps_from a b at (at - at) ≡ [] = ap (steps_from a b at) none in
      let no_rows : AreAtomRows (terms_of s) [] [] = record { count = refl; each = λ i lt. absurd (omega arith) } in
      let fed = feeds [] [] (omega arith) h.follows h.values in
      fed_at at [] (omega arith) (subst (λ (xs : List (Option PairStep)). AreAtomRows (terms_of s) xs []) (sym empty) no_rows)
      (subst (λ (xs : List (Option PairStep)). IsFedOn xs []) (sym empty) fed)
      (record { before_end = omega arith; contact = contact; least = h.apart })

  pub with_row : (in_contact : Bool) → StandsFor program s X T at w → (w.begun ≡ false → (IsTrue in_contact ↔ IsContactAt (own_at s X) (target_at s T) s.detect.watch at))
      → monitor.fed_of w.values < 2 ^ 31 → (w.begun || in_contact) ≡ true → next.begun ≡ true → FeedsOn → StandsFor program s X T (at + 1) next
  with_row in_contact h contact few now_begun next_begun feeds = record {
    begun = λ _. by_case w.begun refl;
    waits = λ fails_so. cc;
  }
    where
      by_case : (b : Bool) → w.begun ≡ b → HasBegun program s X T (at + 1) next
      by_case true e = goes_on (h.begun e) few feeds
      by_case false e = let now : in_contact ≡ true = rw e at now_begun in begins_here (h.waits e) ((contact e).0 now) feeds

  pub without_row : (in_contact : Bool) → StandsFor program s X T at w → (w.begun ≡ false → (IsTrue in_contact ↔ IsContactAt (own_at s X) (target_at s T) s.detect.watch at))
      → (w.begun || in_contact) ≡ false → next.begun ≡ false → next.follower ≡ w.follower → next.values ≡ w.values → StandsFor program s X T (at + 1) next
  without_row in_contact h contact not_begun next_not same_follower same_values = record {
    begun = λ holds. cc;
    waits = λ _. record {
      apart = λ k lt. elim (cases_lt k at) [
        | inl before ↦ was.apart k before
        | inr here ↦ (let e : at ≡ k = omega arith in λ touch. not_now ((contact parts.0).1 (subst (IsContactAt (own_at s X) (target_at s T) s.detect.watch) (sym e) touch)))
      ];
      follows = rw same_follower was.follows;
      values = rw same_values was.values;
    };
  }
    where
      not_either : (b c : Bool) → (b || c) ≡ false → (b ≡ false) × (c ≡ false)
      not_either true c e = cc
      not_either false c e = (refl, e)

      parts : (w.begun ≡ false) × (in_contact ≡ false)
      parts = not_either w.begun in_contact not_begun

      was : HasNotBegun program s X T at w
      was = h.waits parts.0

      not_now : ¬ IsTrue in_contact
      not_now holds = let is_no = parts.1 in cc

pub stands_as : (program : Program) (s : Situation) (X : List ℕ) (T : Target) (at : ℕ) (w next : Watched) → next.begun ≡ w.begun → next.follower ≡ w.follower → next.values ≡ w.values
    → StandsFor program s X T at w → StandsFor program s X T at next
stands_as program s X T at w next same_begun same_follower same_values h = record {
  begun = λ e. let has = h.begun (sym same_begun ∙ e) in record {
    start = has.start;
    rows = has.rows;
    begins = has.begins;
    are_rows = has.are_rows;
    follows = rw same_follower has.follows;
    values = rw same_values has.values;
  };
  waits = λ e. let waits = h.waits (sym same_begun ∙ e) in record {
    apart = waits.apart;
    follows = rw same_follower waits.follows;
    values = rw same_values waits.values;
  };
}

-- ---- breaking

module _ (s : Situation) (X : List ℕ) (T : Target) (cut : Trace) (is_cut : IsCutAtNow s T cut) (at : ℕ) (from_now : now_of s ≤ at) where
  -- What a row decides as newly broken breaks a rule.
  pub breaks_rule : (start : ℕ) (rows : Trace) (passed : ℕ) → BeginsAt s X at T start → AreTraceRows s X at T start rows → IsNewlyBrokenAt (formulas_of s) cut rows passed → BreaksARule s X at T
  breaks_rule start rows passed begins are h =
      let many : length (formulas_of s) ≡ length s.rules = length-map s.rules (λ (rule : NamedTree). rule.tree) in
      let known = h.known in (
        h.rule,
        rule_there s.rules (NewlyBreaks s X at T) h.rule (omega arith) (record {
          start = start;
          begins = begins;
          breaks = λ others others_are.
              let same : rows ≡ others = one_trace s X T at start rows others are others_are in
              let the_cut : take (now_of s - start) others ≡ cut = is_cut.some X at start others from_now begins others_are in
              record {
                position = h.at.position;
                here = record {
                  broken = subst (λ (r : Trace). value_in r (monitor.formula_at (formulas_of s) h.rule) h.at.position ≡ No) same h.at.broken;
                  not_before = subst (λ (r : Trace). value_in r (monitor.formula_at (formulas_of s) h.rule) h.at.position ≢ No) (sym the_cut) h.not_before;
                };
              };
        }),
      )

  -- If a rule is broken, some row decides it, perhaps one beyond the end.
  pub rule_told : (start : ℕ) (rows : Trace) → BeginsAt s X at T start → AreTraceRows s X at T start rows → IsUnbroken s X T cut at → BreaksARule s X at T
      → (passed : ℕ) × ((length rows < passed) × (passed ≤ length rows + greatest_reach (formulas_of s)) × IsNewlyBrokenAt (formulas_of s) cut rows passed)
  rule_told start rows begins are unbroken (k, h) =
      let known = rule_known s.rules (NewlyBreaks s X at T) k h in
      let f = monitor.formula_at (formulas_of s) k in
      let many : length (formulas_of s) ≡ length s.rules = length-map s.rules (λ (rule : NamedTree). rule.tree) in
      let inside = known.0 in
      let breaks = known.1 in
      let same : breaks.start ≡ start = one_start s X T at at breaks.start start breaks.begins begins in
      let broken = breaks.breaks rows (subst (λ (i : ℕ). AreTraceRows s X at T i rows) (sym same) are) in
      let the_cut : take (now_of s - breaks.start) rows ≡ cut = ap (λ (i : ℕ). take (now_of s - i) rows) same ∙ is_cut.some X at start rows from_now begins are in
      let not_before : value_in cut f broken.position ≢ No = subst (λ (r : Trace). value_in r f broken.position ≢ No) the_cut broken.here.not_before in
      let told : IsNewlyBrokenAt (formulas_of s) cut rows (broken.position + 1 + reach_of f) = record {
        rule = k;
        known = omega arith;
        at = record { position = broken.position; decided = refl; broken = broken.here.broken };
        not_before = not_before;
      } in
      let there = no_within rows f broken.position broken.here.broken in
      let far = within_greatest (formulas_of s) k (omega arith) in
      let the_start_cut : take (now_of s - start) rows ≡ cut = is_cut.some X at start rows from_now begins are in (
        broken.position + 1 + reach_of f,
        (
          elim (cases_lt (length rows) (broken.position + 1 + reach_of f)) [
            | inl lt ↦ lt
            | inr le ↦ absurd (elim (cases_lt (length cut) (broken.position + 1 + reach_of f)) [
              | inl after ↦ unbroken start rows begins are (broken.position + 1 + reach_of f) after le told
              | inr before ↦ (let long : length (take (now_of s - start) rows) ≡ length cut = ap length the_start_cut in
                  let short = length-take (now_of s - start) rows in
                  let front : value_in (take (now_of s - start) rows) f broken.position ≡ value_in rows f broken.position =
                  told_by_front rows (now_of s - start) f broken.position (omega arith) in
                  not_before (subst (λ (r : Trace). value_in r f broken.position ≡ No) the_start_cut (front ∙ broken.here.broken)))
            ])
          ],
          omega arith,
          told,
        ),
      )

-- If no trace begins, no rule is broken.
pub none_begun : (program : Program) (s : Situation) (X : List ℕ) (T : Target) (at : ℕ) (w : Watched) → HasNotBegun program s X T at w → ¬ BreaksARule s X at T
none_begun program s X T at w waits (k, h) =
    let breaks = (rule_known s.rules (NewlyBreaks s X at T) k h).1 in
    waits.apart breaks.start breaks.begins.before_end breaks.begins.contact

-- ---- a planned step

module _ (program : Program) (s : Situation) (X : List ℕ) (T : Target) (cut : Trace) (at : ℕ) (w next : Watched) (was : Stands program s X T cut at w)
    (stands : StandsFor program s X T (at + 1) next) where
  -- If no trace has begun, nothing is newly broken.
  pub still_waits : next.begun ≡ false → monitor.fed_of next.values ≡ monitor.fed_of w.values → next.since_now ≡ w.since_now → Stands program s X T cut (at + 1) next
  still_waits fails_so fed since =
      let waits = stands.waits fails_so in
      let counted = was.counted in
      record {
        stands = stands;
        counted = omega arith;
        unbroken = λ start rows begins are. absurd (waits.apart start begins.before_end begins.contact);
      }

  -- With a row that decides nothing as newly broken
  pub still_unbroken : next.begun ≡ true → monitor.fed_of next.values ≡ monitor.fed_of w.values + 1 → next.since_now ≡ w.since_now + 1
      → ((rows : Trace) → monitor.Follows program next.values (formulas_of s) rows → ¬ IsNewlyBrokenAt (formulas_of s) cut rows (length rows))
      → Stands program s X T cut (at + 1) next
  still_unbroken holds fed since tells_nothing =
      let has = stands.begun holds in
      let counted = was.counted in
      record {
        stands = stands;
        counted = omega arith;
        unbroken = λ start rows begins are passed after le told.
            let same : has.start ≡ start = one_start s X T (at + 1) (at + 1) has.start start has.begins begins in
            let are' : AreTraceRows s X (at + 1) T start has.rows = subst (λ (i : ℕ). AreTraceRows s X (at + 1) T i has.rows) same has.are_rows in
            let one : has.rows ≡ rows = one_trace s X T (at + 1) start has.rows rows are' are in
            let values = subst (monitor.Follows program next.values (formulas_of s)) one has.values in
            let long = trace_length s X T (at + 1) start rows are in
            elim (cases_lt passed (length rows)) [
              | inl lt ↦ (let before : start < at = omega arith in
                  let early : AreTraceRows s X at T start (take (at - start) rows) = earlier_rows s X T at (at + 1) start rows (omega arith) (omega arith) are in
                  let front_long = length-take (at - start) rows in
                  was.unbroken start (take (at - start) rows) (record { before_end = before; contact = begins.contact; least = begins.least }) early passed after (omega arith)
                  (broken_in_front (formulas_of s) cut rows (at - start) passed (omega arith) told))
              | inr ge ↦ (let last : passed ≡ length rows = omega arith in
                  tells_nothing rows values (subst (λ (n : ℕ). IsNewlyBrokenAt (formulas_of s) cut rows n) last told))
            ];
      }

  pub now_broken : IsCutAtNow s T cut → now_of s ≤ at → next.begun ≡ true → ((rows : Trace) → monitor.Follows program next.values (formulas_of s) rows → IsNewlyBrokenAt (formulas_of s) cut rows (length rows))
      → BreaksARule s X (at + 1) T
  now_broken is_cut from_now holds tells =
      let has = stands.begun holds in
      breaks_rule s X T cut is_cut (at + 1) (omega arith) has.start has.rows (length has.rows) has.begins has.are_rows (tells has.rows has.values)
