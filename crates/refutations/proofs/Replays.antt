-- What is kept from one entry to the next: rows that are left out, rows that another plan has too, and one row more.
use Rattle.std.proofs.Common.{◌≡◌, ◌∙◌, ℕ, ◌+◌, ◌-◌, ◌<◌, ◌≤◌, ◌⊎◌, ◌≢◌, inl, inr, List, [], ◌∷◌, ◌++◌, length, map, take, get_or, sym, ap, subst, arith, length-append}
use Rattle.std.specs.Prelude.{Option, set}
use Rattle.std.proofs.lemmas.Bool.{cases_lt}
use Rattle.std.proofs.lemmas.List.{get_or_append_left, get_or_default, get_or-set_other, get_or-take, length-set, length-take-le, take-map, take_all}
use Rattle.std.proofs.lemmas.Grind.{get_or-set_at}
use Rattle.std.proofs.Math.Seq.{get_or-append_seam}
use Rattle.encounters.specs.declared.pair_step.PairStep.{PairStep}
use Rattle.lattice.specs.OwnMotion.{choice_in_force}
use Rattle.mtl_formulas.specs.declared.atom.Atom.{Atom}
use Rattle.mtl_formulas.specs.declared.verdict.Verdict.{Verdict}
use Rattle.meetings.specs.Answers.{Kept, answer_of}
use Rattle.meetings.specs.Atoms.{AreAtomRows, IsAtomRow}
use Rattle.meetings.specs.Standing.{Follows, Following}
use Rattle.meetings.specs.Traces.{step_at, steps_from, IsContactAt}
use Rattle.meetings.proofs.ForCallers.{steps_from-length}
use Rattle.plan_situations.specs.FailingPlans.{AreTraceRows, BeginsAt}
use Rattle.plan_situations.specs.Prefixes.{reached, steps_told}
use Rattle.plan_situations.specs.Situations.{end_of, own_at, target_at, terms_of}
use Rattle.plan_situations.specs.declared.situation.Situation.{Situation}
use Rattle.plan_situations.specs.declared.situation.Target.{Target}
use Rattle.plan_situations.proofs.ForCallers.{begins_too, earlier_rows, rows_more, rows_too, same_steps, shared}
use Rattle.refutations.specs.Inner.Replays.{situation_in, told_to, HaveInCommon, IsCourse, IsReplay, IsTraceSoFar}
use Rattle.refutations.specs.declared.course.Course.{Course}
use Rattle.refutations.specs.declared.replay.Replay.{Replay}
use Rattle.refutations.specs.declared.trace_so_far.TraceSoFar.{TraceSoFar}

-- ---- rows left out

module _ (s : Situation) (X : List ℕ) (T : Target) where
  -- the rows up to a tick are those of the trace that ends there
  pub front : (trace : TraceSoFar) (until : ℕ) (rows : List Kept) → IsTraceSoFar s X T trace → trace.start ≤ until → until ≤ told_to trace → rows ≡ take (until - trace.start) trace.rows.items
      → AreTraceRows s X until T trace.start (map answer_of rows)
  front trace until rows h from long is =
      subst (λ (xs : List (Atom → Verdict)). AreTraceRows s X until T trace.start xs) (take-map answer_of (until - trace.start) trace.rows.items ∙ ap (map answer_of) (sym is))
      (earlier_rows s X T until (told_to trace) trace.start (map answer_of trace.rows.items) from long h.rows)

  -- the first rows alone, no more than there are
  fewer : (trace new : TraceSoFar) (n : ℕ) → IsTraceSoFar s X T trace → n ≤ length trace.rows.items → new.start ≡ trace.start → new.rows.items ≡ take n trace.rows.items
      → new.followers.items ≡ take n trace.followers.items → IsTraceSoFar s X T new
  fewer trace new n h le start rows followers =
      let many : length new.rows.items ≡ n = ap length rows ∙ length-take-le n trace.rows.items le in
      let as_many = h.as_many in
      let also : length new.followers.items ≡ n = ap length followers ∙ length-take-le n trace.followers.items (omega arith) in
      let within = h.within in
      let ends : told_to new ≡ trace.start + n = omega arith in
      let cut : (trace.start + n) - trace.start ≡ n = omega arith in
      let are : AreTraceRows s X (trace.start + n) T trace.start (map answer_of new.rows.items) =
      front trace (trace.start + n) new.rows.items h (omega arith) (omega arith) (rows ∙ ap (λ (k : ℕ). take k trace.rows.items) (sym cut)) in
      record {
        within = omega arith;
        begins = λ some.
            let begins = h.begins (omega arith) in
            record {
              before_end = omega arith;
              contact = subst (λ (k : ℕ). IsContactAt (own_at s X) (target_at s T) s.detect.watch k) (sym start) begins.contact;
              least = λ i lt. begins.least i (omega arith);
            };
        rows = subst (λ (k : ℕ). AreTraceRows s X (told_to new) T k (map answer_of new.rows.items)) (sym start)
            (subst (λ (at : ℕ). AreTraceRows s X at T trace.start (map answer_of new.rows.items)) (sym ends) are);
        as_many = also ∙ sym many;
        followers = λ j d lt.
            let before : j < n = omega arith in
            let same : get_or new.followers.items j d ≡ get_or trace.followers.items j d = ap (λ (xs : List Following). get_or xs j d) followers ∙ get_or-take n trace.followers.items j d before in
            subst (λ (k : ℕ). Follows (get_or new.followers.items j d) (terms_of s) (steps_from (own_at s X) (target_at s T) k (j + 1))) (sym start)
            (subst (λ (f : Following). Follows f (terms_of s) (steps_from (own_at s X) (target_at s T) trace.start (j + 1))) (sym same) (h.followers j d (omega arith)));
      }

  -- those of the steps up to a tick that is not before the first
  pub shortened : (trace new : TraceSoFar) (left : ℕ) → IsTraceSoFar s X T trace → new.start ≡ trace.start → new.rows.items ≡ take left trace.rows.items
      → new.followers.items ≡ take left trace.followers.items → IsTraceSoFar s X T new
  shortened trace new left h start rows followers = elim (cases_lt left (length trace.rows.items)) [
    | inl some ↦ fewer trace new left h (omega arith) start rows followers
    | inr all ↦ (let as_many = h.as_many in
        let n = length trace.rows.items in
        fewer trace new n h (omega arith) start
        (rows ∙ (take_all left trace.rows.items all ∙ sym (take_all n trace.rows.items (omega arith))))
        (followers ∙ (take_all left trace.followers.items (omega arith) ∙ sym (take_all n trace.followers.items (omega arith)))))
  ]

-- ---- rows under another plan

-- What the common legs determine stays.
pub carried : (s : Situation) (X Y : List ℕ) (T : Target) (legs : ℕ) (trace new : TraceSoFar) → 1 ≤ s.lattice.legs → HaveInCommon X Y legs → told_to trace ≤ reached s legs
    → IsTraceSoFar s X T trace → new.start ≡ trace.start → new.rows.items ≡ trace.rows.items → new.followers.items ≡ trace.followers.items → IsTraceSoFar s Y T new
carried s X Y T legs trace new some common told h start rows followers =
    shortened s Y T trace new (length trace.rows.items) here start
    (rows ∙ sym (take_all (length trace.rows.items) trace.rows.items (omega arith)))
    (followers ∙ sym (take_all (length trace.rows.items) trace.followers.items (let many = h.as_many in omega arith)))
  where
    n : ℕ
    n = steps_told s.lattice legs

    same : (step : ℕ) → step < n → choice_in_force s.lattice X step ≡ choice_in_force s.lattice Y step
    same = shared s.lattice X Y legs some common.alike

    here : IsTraceSoFar s Y T trace
    here = record {
      within = h.within;
      begins = λ more. begins_too s X Y n same (told_to trace) told T (told_to trace) trace.start (omega arith) (h.begins more);
      rows = rows_too s X Y n same (told_to trace) told T trace.start (map answer_of trace.rows.items) (omega arith) h.rows;
      as_many = h.as_many;
      followers = λ j d lt.
          let as_many = h.as_many in
          subst (λ (steps : List (Option PairStep)). Follows (get_or trace.followers.items j d) (terms_of s) steps) (same_steps s X Y n same T trace.start (j + 1) (omega arith))
          (h.followers j d lt);
    }

-- ---- one row more

pub one_more : (s : Situation) (X : List ℕ) (T : Target) (trace new : TraceSoFar) (k : ℕ) (row : Kept) (follower : Following) → IsTraceSoFar s X T trace → BeginsAt s X (k + 1) T trace.start
    → k ≡ told_to trace → k < end_of s
    → IsAtomRow (terms_of s) (steps_from (own_at s X) (target_at s T) trace.start (length trace.rows.items) ++ step_at (own_at s X) (target_at s T) k ∷ []) (length trace.rows.items) (answer_of row)
    → Follows follower (terms_of s) (steps_from (own_at s X) (target_at s T) trace.start (length trace.rows.items + 1))
    → new.start ≡ trace.start → new.rows.items ≡ trace.rows.items ++ row ∷ [] → new.followers.items ≡ trace.followers.items ++ follower ∷ [] → IsTraceSoFar s X T new
one_more s X T trace new k row follower h begins at lt is_row follows start rows followers =
    let a = own_at s X in
    let b = target_at s T in
    let n = length trace.rows.items in
    let as_many = h.as_many in
    let many : length new.rows.items ≡ n + 1 = ap length rows ∙ length-append trace.rows.items (row ∷ []) in
    let also : length new.followers.items ≡ n + 1 = ap length followers ∙ (length-append trace.followers.items (follower ∷ []) ∙ ap (λ (i : ℕ). i + 1) as_many) in
    let ends : told_to new ≡ k + 1 = omega arith in
    let count : k - trace.start ≡ n = omega arith in
    let before : told_to trace - trace.start ≡ k - trace.start = omega arith in
    let are : AreAtomRows (terms_of s) (steps_from a b trace.start (k - trace.start)) (map answer_of trace.rows.items) =
    subst (λ (i : ℕ). AreAtomRows (terms_of s) (steps_from a b trace.start i) (map answer_of trace.rows.items)) before h.rows in
    let is_row' : IsAtomRow (terms_of s) (steps_from a b trace.start (k - trace.start) ++ step_at a b k ∷ []) (length (steps_from a b trace.start (k - trace.start))) (answer_of row) =
    subst (λ (i : ℕ). IsAtomRow (terms_of s) (steps_from a b trace.start (k - trace.start) ++ step_at a b k ∷ []) i (answer_of row)) (sym (steps_from-length a b trace.start (k - trace.start) ∙ count))
    (subst (λ (i : ℕ). IsAtomRow (terms_of s) (steps_from a b trace.start i ++ step_at a b k ∷ []) n (answer_of row)) (sym count) is_row) in
    record {
      within = omega arith;
      begins = λ some.
          subst (λ (i : ℕ). BeginsAt s X (told_to new) T i) (sym start) (subst (λ (i : ℕ). BeginsAt s X i T trace.start) (sym ends) begins);
      rows = subst (λ (i : ℕ). AreTraceRows s X (told_to new) T i (map answer_of new.rows.items)) (sym start)
          (subst (λ (i : ℕ). AreTraceRows s X i T trace.start (map answer_of new.rows.items)) (sym ends)
          (rows_more (terms_of s) a b trace.start k trace.rows.items new.rows.items row (omega arith) are is_row' rows));
      as_many = also ∙ sym many;
      followers = λ j d inside. subst (λ (i : ℕ). Follows (get_or new.followers.items j d) (terms_of s) (steps_from a b i (j + 1))) (sym start)
          (subst (λ (xs : List Following). Follows (get_or xs j d) (terms_of s) (steps_from a b trace.start (j + 1))) (sym followers)
          (elim (cases_lt j (length trace.followers.items)) [
            | inl earlier ↦ subst (λ (f : Following). Follows f (terms_of s) (steps_from a b trace.start (j + 1))) (sym (get_or_append_left trace.followers.items (follower ∷ []) d j earlier)) (h.followers j d earlier)
            | inr last ↦ (let here : length trace.followers.items ≡ j = omega arith in
                let also_here : n ≡ j = omega arith in
                let found : get_or (trace.followers.items ++ follower ∷ []) j d ≡ follower = subst (λ (i : ℕ). get_or (trace.followers.items ++ follower ∷ []) i d ≡ follower) here (get_or-append_seam trace.followers.items follower [] d) in
                subst (λ (f : Following). Follows f (terms_of s) (steps_from a b trace.start (j + 1))) (sym found)
                (subst (λ (i : ℕ). Follows follower (terms_of s) (steps_from a b trace.start (i + 1))) also_here follows))
          ]));
    }

-- ---- what is kept of all targets

pub traces_more : (s : Situation) (xs new : List TraceSoFar) (x : TraceSoFar) → new ≡ xs ++ x ∷ []
    → ((k : ℕ) (T : Target) (trace : TraceSoFar) → k < length xs → IsTraceSoFar s (get_or xs k trace).plan T (get_or xs k trace)) → ((T : Target) → IsTraceSoFar s x.plan T x)
    → (k : ℕ) (T : Target) (trace : TraceSoFar) → k < length new → IsTraceSoFar s (get_or new k trace).plan T (get_or new k trace)
traces_more s xs new x e before here k T trace lt =
    let many : length new ≡ length xs + 1 = ap length e ∙ length-append xs (x ∷ []) in
    subst (λ (ys : List TraceSoFar). IsTraceSoFar s (get_or ys k trace).plan T (get_or ys k trace)) (sym e)
    (elim (cases_lt k (length xs)) [
      | inl earlier ↦ subst (λ (t : TraceSoFar). IsTraceSoFar s t.plan T t) (sym (get_or_append_left xs (x ∷ []) trace k earlier)) (before k T trace earlier)
      | inr last ↦ (let at : length xs ≡ k = omega arith in
          let found : get_or (xs ++ x ∷ []) k trace ≡ x = subst (λ (i : ℕ). get_or (xs ++ x ∷ []) i trace ≡ x) at (get_or-append_seam xs x [] trace) in
          subst (λ (t : TraceSoFar). IsTraceSoFar s t.plan T t) (sym found) (here T))
    ])

-- one of them
pub kept : (replay : Replay) (k : ℕ) (T : Target) (trace : TraceSoFar) → IsReplay replay → k < length (situation_in replay.course).targets → T ≡ get_or (situation_in replay.course).targets k T
    → trace ≡ get_or replay.traces.items k trace → IsTraceSoFar (situation_in replay.course) trace.plan T trace
kept replay k T trace h lt is_target is_trace =
    let s = situation_in replay.course in
    let as_many = h.as_many in
    subst (λ (t : Target). IsTraceSoFar s trace.plan t trace) (sym is_target)
    (subst (λ (x : TraceSoFar). IsTraceSoFar s x.plan (get_or s.targets k T) x) (sym is_trace) (h.traces k T trace (omega arith)))

-- one of the traces becomes longer
pub kept_too : (replay new : Replay) (k : ℕ) (U : Target) (trace : TraceSoFar) → IsReplay replay → k < length (situation_in replay.course).targets → U ≡ get_or (situation_in replay.course).targets k U
    → new.course ≡ replay.course → new.traces.items ≡ set replay.traces.items k trace → IsTraceSoFar (situation_in replay.course) trace.plan U trace → IsReplay new
kept_too replay new k U trace h lt is_target same is told =
    let s = situation_in replay.course in
    let as_many = h.as_many in
    let many : length new.traces.items ≡ length replay.traces.items = ap length is ∙ length-set replay.traces.items k trace in
    record {
      course = subst IsCourse (sym same) h.course;
      as_many = subst (λ (course : Course). length new.traces.items ≡ length (situation_in course).targets) (sym same) (many ∙ as_many);
      traces = subst (λ (course : Course). (j : ℕ) (T : Target) (t : TraceSoFar) → j < length new.traces.items
          → IsTraceSoFar (situation_in course) (get_or new.traces.items j t).plan (get_or (situation_in course).targets j T) (get_or new.traces.items j t)) (sym same)
          (λ j T t inside. subst (λ (xs : List TraceSoFar). IsTraceSoFar s (get_or xs j t).plan (get_or s.targets j T) (get_or xs j t)) (sym is) (at j T t (omega arith)));
    }
  where
    s : Situation
    s = situation_in replay.course

    decide_eq : (i j : ℕ) → (i ≡ j) ⊎ (i ≢ j)
    decide_eq i j = elim (cases_lt i j) [
      | inl less ↦ inr (λ e. absurd (omega arith))
      | inr from ↦ elim (cases_lt j i) [
        | inl more ↦ inr (λ e. absurd (omega arith))
        | inr to ↦ inl (omega arith)
      ]
    ]

    at : (j : ℕ) (T : Target) (t : TraceSoFar) → j < length replay.traces.items
        → IsTraceSoFar s (get_or (set replay.traces.items k trace) j t).plan (get_or s.targets j T) (get_or (set replay.traces.items k trace) j t)
    at j T t inside = elim (decide_eq j k) [
      | inl here ↦ (let as_many = h.as_many in
          let found : get_or (set replay.traces.items k trace) j t ≡ trace = get_or-set_at replay.traces.items k j trace t here (omega arith) in
          let target : U ≡ get_or s.targets j T = is_target ∙ (get_or_default s.targets k U T lt ∙ ap (λ (i : ℕ). get_or s.targets i T) (sym here)) in
          subst (λ (x : TraceSoFar). IsTraceSoFar s x.plan (get_or s.targets j T) x) (sym found) (subst (λ (x : Target). IsTraceSoFar s trace.plan x trace) target told))
      | inr other ↦ subst (λ (x : TraceSoFar). IsTraceSoFar s x.plan (get_or s.targets j T) x) (sym (get_or-set_other replay.traces.items k j trace t other)) (h.traces j T t inside)
    ]

-- the course alone turns
pub turned : (replay : Replay) (next : Course) → IsReplay replay → IsCourse next → situation_in next ≡ situation_in replay.course → IsReplay (record { course = next; traces = replay.traces })
turned replay next h is e = record {
  course = is;
  as_many = subst (λ (s : Situation). length replay.traces.items ≡ length s.targets) (sym e) h.as_many;
  traces = subst (λ (s : Situation). (k : ℕ) (T : Target) (trace : TraceSoFar) → k < length replay.traces.items
      → IsTraceSoFar s (get_or replay.traces.items k trace).plan (get_or s.targets k T) (get_or replay.traces.items k trace)) (sym e) h.traces;
}
