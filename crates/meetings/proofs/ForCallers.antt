-- Lemmas for the crates above: the steps of two vessels one after the other, and rows as steps come.
use Rattle.std.proofs.Common.{◌≡◌, ℕ, zero, suc, ◌+◌, ◌-◌, ◌≤◌, ◌<◌, ◌⊎◌, inl, inr, List, [], ◌∷◌, ◌++◌, length, length-append, refl, sym, ap, ap₂, subst, ◌∙◌, arith, take, length-take}
use Rattle.std.specs.Prelude.{Option, None, Some, slice_get, IsSomeAnd, IfSome}
use Rattle.motion.specs.declared.leg.TickState.{TickState}
use Rattle.mtl_formulas.specs.declared.atom.Atom.{Atom}
use Rattle.mtl_formulas.specs.declared.verdict.Verdict.{Verdict}
use Rattle.encounters.specs.Engagement.{seen_at}
use Rattle.encounters.specs.Risk.{HasRisk}
use Rattle.encounters.specs.declared.detect.Detect.{Detect}
use Rattle.encounters.specs.declared.pair_step.PairStep.{PairStep}
use Rattle.encounters.proofs.ForCallers.{agree_back, agree_front, engagement_of-agree, seen_at-behind, seen_at-front, state_behind, state_over_more}
use Rattle.encounters.specs.declared.engagement_state.EngagementState.{EngagementState}
use Rattle.encounters.specs.declared.engagement_state.EngagementState.TheVariants.{Apart, Engaged}
use Rattle.encounters.specs.Engagement.{IsState}
use Rattle.meetings.specs.Atoms.{AreAnswers, AreRankedRows, IsRankedRow}
use Rattle.meetings.specs.Ranks.{all_power_driven, beginning_at}
use Rattle.meetings.specs.Standing.{Following, Follows, FollowsRanked}
use Rattle.meetings.specs.Terms.{Terms}
use Rattle.meetings.specs.Traces.{AreInContact, BeginsTrace, step_at, step_between, steps_from}
use Rattle.meetings.specs.declared.by_rank.ByRank.{ByRank}
use Rattle.meetings.proofs.Beginnings.{begun_by, some_steps}
pub use Rattle.meetings.proofs.Rows.{one_list, one_value, same_answers}

-- ---- steps

module _ (a b : ℕ → Option TickState) where
  pub steps_from-length : (i count : ℕ) → length (steps_from a b i count) ≡ count
  steps_from-length i zero = refl
  steps_from-length i (suc count) = ap suc (steps_from-length (i + 1) count)

  -- first some steps, then others
  pub steps_from-split : (i count more : ℕ) → steps_from a b i (count + more) ≡ steps_from a b i count ++ steps_from a b (i + count) more
  steps_from-split i zero more =
      let count : 0 + more ≡ more = omega arith in
      let same : i ≡ i + 0 = omega arith in
      ap₂ (steps_from a b) same count
  steps_from-split i (suc count) more =
      let one_more : suc count + more ≡ suc (count + more) = omega arith in
      let same : (i + 1) + count ≡ i + suc count = omega arith in
      ap (steps_from a b i) one_more
      ∙ ap (λ (rest : List (Option PairStep)). step_at a b i ∷ rest)
      (steps_from-split (i + 1) count more ∙ ap (λ (k : ℕ). steps_from a b (i + 1) count ++ steps_from a b k more) same)

  -- one step more
  pub steps_from-last : (i count : ℕ) → steps_from a b i (count + 1) ≡ steps_from a b i count ++ step_at a b (i + count) ∷ []
  steps_from-last i count = steps_from-split i count 1

  pub steps_from-seen : (i count k : ℕ) → k < count → seen_at (steps_from a b i count) k ≡ step_at a b (i + k)
  steps_from-seen i zero k lt = absurd (omega arith)
  steps_from-seen i (suc count) zero lt = let same : i + 0 ≡ i = omega arith in ap (step_at a b) (sym same)
  steps_from-seen i (suc count) (suc k) lt =
      let same : (i + 1) + k ≡ i + suc k = omega arith in
      steps_from-seen (i + 1) count k (omega arith) ∙ ap (step_at a b) same

-- ---- the steps before a trace have no risk

contact_of : (detect : Detect) (a0 b0 a1 b1 : Option TickState) → (¬ AreInContact detect.watch a0 b0) → IfSome (step_between a0 b0 a1 b1) (λ pair. ¬ HasRisk detect pair.step)
contact_of detect None b0 a1 b1 apart = tt
contact_of detect (Some s) None a1 b1 apart = tt
contact_of detect (Some s) (Some t) None b1 apart = tt
contact_of detect (Some s) (Some t) (Some u) None apart = tt
contact_of detect (Some s) (Some t) (Some u) (Some v) apart = λ risk. apart risk.watched

module _ (detect : Detect) (a b : ℕ → Option TickState) (end start : ℕ) (begins : BeginsTrace a b detect.watch end start) where
  pub riskless_before : (k : ℕ) → k < length (steps_from a b 0 start) → IfSome (seen_at (steps_from a b 0 start) k) (λ pair. ¬ HasRisk detect pair.step)
  riskless_before k lt =
      let count : length (steps_from a b 0 start) ≡ start = steps_from-length a b 0 start in
      let before : k < start = omega arith in
      let same : 0 + k ≡ k = omega arith in
      subst (λ (o : Option PairStep). IfSome o (λ pair. ¬ HasRisk detect pair.step)) (sym (steps_from-seen a b 0 start k before ∙ ap (step_at a b) same))
      (contact_of detect (a k) (b k) (a (k + 1)) (b (k + 1)) (begins.least k before))

  pub window_split : steps_from a b 0 end ≡ steps_from a b 0 start ++ steps_from a b start (end - start)
  window_split =
      let before = begins.before_end in
      let same : start + (end - start) ≡ end = omega arith in
      let from : 0 + start ≡ start = omega arith in
      ap (steps_from a b 0) (sym same)
      ∙ (steps_from-split a b 0 start (end - start) ∙ ap (λ (k : ℕ). steps_from a b 0 start ++ steps_from a b k (end - start)) from)

-- ---- rows

-- where an engagement began is the same if the steps are counted from further back
begun_behind : (detect : Detect) (steps : List (Option PairStep)) (n i : ℕ) (state : EngagementState) → IsState detect steps i state
    → n + beginning_at i state ≡ beginning_at (n + i) state
begun_behind detect steps n i Apart h = refl
begun_behind detect steps n i (Engaged kind age a b) h = let since = h.since in omega arith

-- Only what the ranks say up to the step counts for its row.
module _ (terms : Terms) (ranks others : ℕ → ByRank) (steps : List (Option PairStep)) where
  pub row_same_ranks : (i : ℕ) (answers : Atom → Verdict) → ((k : ℕ) → k ≤ i → ranks k ≡ others k) → IsRankedRow terms ranks steps i answers
      → IsRankedRow terms others steps i answers
  row_same_ranks i answers same row = record {
    state = row.state;
    is_state = row.is_state;
    values = subst (λ (r : ByRank). AreAnswers terms r row.state (seen_at steps i) answers) (same (beginning_at i row.state) (begun_by i row.state)) row.values;
  }

  pub rows_same_ranks : (rows : List (Atom → Verdict)) → ((k : ℕ) → k < length steps → ranks k ≡ others k) → AreRankedRows terms ranks steps rows
      → AreRankedRows terms others steps rows
  rows_same_ranks rows same h = record { count = h.count; each = λ i lt. row_of (slice_get rows i) i lt (h.each i lt) }
    where
      row_of : (o : Option (Atom → Verdict)) (i : ℕ) → i < length steps → IsSomeAnd o (IsRankedRow terms ranks steps i)
          → IsSomeAnd o (IsRankedRow terms others steps i)
      row_of None i lt h = h
      row_of (Some x) i lt h = row_same_ranks i x (λ k le. same k (omega arith)) h

  pub follows_same_ranks : (following : Following) → ((k : ℕ) → k < length steps → ranks k ≡ others k) → FollowsRanked following terms ranks steps
      → FollowsRanked following terms others steps
  follows_same_ranks following same h = record {
    by_act = h.by_act;
    by_tick = h.by_tick;
    engagement = h.engagement;
    begun = λ some.
        let latest = following.engagement.latest in
        let first = some_steps terms.detect steps latest h.engagement.after some in
        let by = begun_by (length steps - 1) latest in
        h.begun some ∙ same (beginning_at (length steps - 1) latest) (omega arith);
  }

-- Of no steps a follower follows them whatever the ranks.
pub follows_none : (following : Following) (terms : Terms) (ranks : ℕ → ByRank) → Follows following terms [] → FollowsRanked following terms ranks []
follows_none following terms ranks h = follows_same_ranks terms all_power_driven ranks [] following (λ k lt. absurd (omega arith)) h

module _ (terms : Terms) (ranks : ℕ → ByRank) where
  pub row_over_more : (steps more : List (Option PairStep)) (i : ℕ) (answers : Atom → Verdict) → i < length steps
      → IsRankedRow terms ranks steps i answers → IsRankedRow terms ranks (steps ++ more) i answers
  row_over_more steps more i answers lt row = record {
    state = row.state;
    is_state = state_over_more terms.detect steps more i row.state lt row.is_state;
    values = rw (seen_at-front steps more i lt) row.values;
  }

  pub row_over_less : (steps more : List (Option PairStep)) (i : ℕ) (answers : Atom → Verdict) → i < length steps
      → IsRankedRow terms ranks (steps ++ more) i answers → IsRankedRow terms ranks steps i answers
  row_over_less steps more i answers lt row = record {
    state = row.state;
    is_state = engagement_of-agree terms.detect (steps ++ more) steps i row.state (agree_back steps (steps ++ more) i (agree_front steps more i lt)) row.is_state;
    values = rw (← seen_at-front steps more i lt) row.values;
  }

  -- the rows of a front of the steps are a front of the rows
  pub rows_of_front : (steps more : List (Option PairStep)) (rows : List (Atom → Verdict)) → AreRankedRows terms ranks (steps ++ more) rows
      → AreRankedRows terms ranks steps (take (length steps) rows)
  rows_of_front steps more rows h =
      let count = h.count in
      record {
        count = omega (arith, length-append steps more, length-take (length steps) rows);
        each = λ i lt.
            subst (λ (o : Option (Atom → Verdict)). IsSomeAnd o (IsRankedRow terms ranks steps i)) (sym (taken rows (length steps) i lt))
            (row_of (slice_get rows i) i lt (h.each i (omega (arith, length-append steps more))));
      }
    where
      taken : (rows : List (Atom → Verdict)) (n i : ℕ) → i < n → slice_get (take n rows) i ≡ slice_get rows i
      taken [] zero i lt = absurd (omega arith)
      taken [] (suc n) i lt = refl
      taken (x ∷ rows) zero i lt = absurd (omega arith)
      taken (x ∷ rows) (suc n) zero lt = refl
      taken (x ∷ rows) (suc n) (suc i) lt = taken rows n i (omega arith)

      row_of : (o : Option (Atom → Verdict)) (i : ℕ) → i < length steps → IsSomeAnd o (IsRankedRow terms ranks (steps ++ more) i)
          → IsSomeAnd o (IsRankedRow terms ranks steps i)
      row_of None i lt h = h
      row_of (Some x) i lt h = row_over_less steps more i x lt h

  pub row_behind : (front steps : List (Option PairStep)) → ((k : ℕ) → k < length front → IfSome (seen_at front k) (λ pair. ¬ HasRisk terms.detect pair.step))
      → (i : ℕ) (answers : Atom → Verdict) → IsRankedRow terms (λ k. ranks (length front + k)) steps i answers → IsRankedRow terms ranks (front ++ steps) (length front + i) answers
  row_behind front steps riskless i answers row = record {
    state = row.state;
    is_state = state_behind terms.detect front steps riskless i row.state row.is_state;
    values = rw (seen_at-behind front steps i)
        (subst (λ (k : ℕ). AreAnswers terms (ranks k) row.state (seen_at steps i) answers) (begun_behind terms.detect steps (length front) i row.state row.is_state) row.values);
  }

  -- the rows of steps, then that of one more
  pub rows_then : (steps : List (Option PairStep)) (rows : List (Atom → Verdict)) (step : Option PairStep) (answers : Atom → Verdict)
      → AreRankedRows terms ranks steps rows → IsRankedRow terms ranks (steps ++ step ∷ []) (length steps) answers
      → AreRankedRows terms ranks (steps ++ step ∷ []) (rows ++ answers ∷ [])
  rows_then steps rows step answers h row =
      let count = h.count in
      record {
        count = omega (arith, length-append steps (step ∷ []), length-append rows (answers ∷ []));
        each = λ i lt. elim (same_or_earlier i (length steps) (omega (arith, length-append steps (step ∷ [])))) [
          | inl same ↦ (let at_end : i ≡ length rows = omega arith in
              subst (λ (o : Option (Atom → Verdict)). IsSomeAnd o (IsRankedRow terms ranks (steps ++ step ∷ []) i)) (sym (last_row rows answers i at_end))
              (subst (λ (k : ℕ). IsRankedRow terms ranks (steps ++ step ∷ []) k answers) (sym same) row))
          | inr earlier ↦ (let early : i < length rows = omega arith in
              subst (λ (o : Option (Atom → Verdict)). IsSomeAnd o (IsRankedRow terms ranks (steps ++ step ∷ []) i)) (sym (front_row rows answers i early))
              (row_of (slice_get rows i) i earlier (h.each i earlier)))
        ];
      }
    where
      same_or_earlier : (k n : ℕ) → k < n + 1 → (k ≡ n) ⊎ (k < n)
      same_or_earlier k n lt = grind arith

      last_row : (rows : List (Atom → Verdict)) (answers : Atom → Verdict) (i : ℕ) → i ≡ length rows → slice_get (rows ++ answers ∷ []) i ≡ Some answers
      last_row [] answers zero e = refl
      last_row [] answers (suc i) e = absurd (omega arith)
      last_row (x ∷ rows) answers zero e = absurd (omega arith)
      last_row (x ∷ rows) answers (suc i) e = last_row rows answers i (omega arith)

      front_row : (rows : List (Atom → Verdict)) (answers : Atom → Verdict) (i : ℕ) → i < length rows → slice_get (rows ++ answers ∷ []) i ≡ slice_get rows i
      front_row [] answers i lt = absurd (omega arith)
      front_row (x ∷ rows) answers zero lt = refl
      front_row (x ∷ rows) answers (suc i) lt = front_row rows answers i (omega arith)

      row_of : (o : Option (Atom → Verdict)) (i : ℕ) → i < length steps → IsSomeAnd o (IsRankedRow terms ranks steps i)
          → IsSomeAnd o (IsRankedRow terms ranks (steps ++ step ∷ []) i)
      row_of None i lt h = h
      row_of (Some x) i lt h = row_over_more steps (step ∷ []) i x lt h
