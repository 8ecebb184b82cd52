-- How the counts of marks grow with one mark more.
use Rattle.std.proofs.Common.{◌≡◌, ℕ, ◌+◌, ◌-◌, ◌^◌, ◌<◌, ◌≤◌, Bool, true, false, cond, List, [], ◌∷◌, ◌++◌, length, refl, sym, ap, subst, ◌∙◌, arith, Some, None, length-append}
use Rattle.std.specs.Prelude.{not}
use Rattle.std.specs.List.{filter}
use Rattle.std.proofs.lemmas.List.Elements.{filter-append}
use Rattle.std.proofs.lemmas.List.Filters.{length-filter_both}
use Rattle.audit_rows.specs.declared.counts.MarkCounts.{MarkCounts}
use Rattle.audit_rows.specs.declared.mark.Mark.{Mark}
use Rattle.audit_rows.specs.declared.mark.Mark.TheVariants as mark
use Rattle.audit_rows.specs.declared.stretch.Opened.{Opened}
use Rattle.audit_rows.specs.Inner.Lanes.{AreCountsBefore, open_run, with_stretch, told}
use Rattle.audit_rows.specs.Inner.Sorts.{Sort, Nothing, Broken, Undecided, Engaged, join, sort_of}
use Rattle.audit_rows.specs.MarkCounts.{AreCounts, broken_stretches, is_any, is_broken, is_nothing, is_undecided, passing}
use Rattle.audit_rows.specs.Stretches.{mark_at}
use Rattle.audit_rows.proofs.BrokenStretches.{few_stretches, stretches_first, stretches_more, stretches_same}
use Rattle.audit_rows.proofs.Sorts.{sort_join}

pub length-filter_append : {X : Type 0} (p : X → Bool) (xs ys : List X) → length (filter p (xs ++ ys)) ≡ length (filter p xs) + length (filter p ys)
length-filter_append p xs ys = ap length (filter-append p xs ys) ∙ length-append (filter p xs) (filter p ys)

pub length-filter_one : {X : Type 0} (p : X → Bool) (x : X) → length (filter p (x ∷ [])) ≡ cond (p x) 1 0
length-filter_one p x = one (p x) where
  one : (b : Bool) → length (cond b (x ∷ []) []) ≡ cond b 1 0
  one true = refl
  one false = refl

one_more : (test : Mark → Bool) (marks : List Mark) (mark : Mark) → passing test (marks ++ mark ∷ []) ≡ passing test marks + cond (test mark) 1 0
one_more test marks mark = length-filter_append test marks (mark ∷ []) ∙ ap (λ (n : ℕ). passing test marks + n) (length-filter_one test mark)

few : (test : Mark → Bool) (marks : List Mark) → passing test marks ≤ length marks
few test marks = omega (arith, length-filter_both test (λ (m : Mark). not (test m)) (λ m. refl) marks)

-- ---- tests that a mark's sort decides

abbrev nothing_sort : Sort → Bool
nothing_sort Nothing = true
nothing_sort Broken = false
nothing_sort Undecided = false
nothing_sort Engaged = false

abbrev broken_sort : Sort → Bool
broken_sort Nothing = false
broken_sort Broken = true
broken_sort Undecided = false
broken_sort Engaged = false

abbrev undecided_sort : Sort → Bool
undecided_sort Nothing = false
undecided_sort Broken = false
undecided_sort Undecided = true
undecided_sort Engaged = false

nothing_by : (m : Mark) → is_nothing m ≡ nothing_sort (sort_of m)
nothing_by mark.Nothing = refl
nothing_by mark.Broken = refl
nothing_by mark.Undecided = refl
nothing_by (mark.Engaged kind least) = refl

broken_by : (m : Mark) → is_broken m ≡ broken_sort (sort_of m)
broken_by mark.Nothing = refl
broken_by mark.Broken = refl
broken_by mark.Undecided = refl
broken_by (mark.Engaged kind least) = refl

undecided_by : (m : Mark) → is_undecided m ≡ undecided_sort (sort_of m)
undecided_by mark.Nothing = refl
undecided_by mark.Broken = refl
undecided_by mark.Undecided = refl
undecided_by (mark.Engaged kind least) = refl

any_by : (m : Mark) → is_any m ≡ true
any_by m = refl

alike : (test : Mark → Bool) (by : Sort → Bool) → ((m : Mark) → test m ≡ by (sort_of m)) → (a b : Mark) → sort_of a ≡ sort_of b → test a ≡ test b
alike test by is a b e = is a ∙ ap by e ∙ sym (is b)

-- The marks end in one of the same sort.
pub record EndsAs (marks : List Mark) (whole : Mark) : Type 0 where
  pub at : ℕ
  pub last : at + 1 ≡ length marks
  pub sort : sort_of (mark_at marks at) ≡ sort_of whole

-- ---- one more mark of the stretch

grows : (p : Bool) (n first step old new : ℕ) → first ≤ step → n + cond p (step - first) 0 ≡ old → new ≡ old + cond p 1 0 → n + cond p ((step + 1) - first) 0 ≡ new
grows true n first step old new le h g = omega arith
grows false n first step old new le h g = omega arith

module _ (counts : MarkCounts) (opened : Opened) (mark : Mark) (step : ℕ) (marks : List Mark) (le : opened.first ≤ step) (same : sort_of opened.mark ≡ sort_of mark)
    (ends : EndsAs marks opened.mark) (h : AreCountsBefore counts (Some opened) step marks) where
  one_same : (test : Mark → Bool) (by : Sort → Bool) → ((m : Mark) → test m ≡ by (sort_of m)) → (n : ℕ) → n + cond (test opened.mark) (step - opened.first) 0 ≡ passing test marks
      → n + cond (test (join opened.mark mark)) ((step + 1) - opened.first) 0 ≡ passing test (marks ++ mark ∷ [])
  one_same test by is n e =
      let all = passing test (marks ++ mark ∷ []) in
      let more : all ≡ passing test marks + cond (test opened.mark) 1 0 =
      subst (λ (b : Bool). all ≡ passing test marks + cond b 1 0) (alike test by is mark opened.mark (sym same)) (one_more test marks mark) in
      subst (λ (b : Bool). n + cond b ((step + 1) - opened.first) 0 ≡ all) (alike test by is opened.mark (join opened.mark mark) (sym (sort_join opened.mark mark)))
      (grows (test opened.mark) n opened.first step (passing test marks) all le e more)

  runs_same : counts.runs + open_run (Some (record { first = opened.first; mark = join opened.mark mark })) ≡ broken_stretches (marks ++ mark ∷ [])
  runs_same =
      let joined : is_broken (join opened.mark mark) ≡ is_broken opened.mark = alike is_broken broken_sort broken_by (join opened.mark mark) opened.mark (sort_join opened.mark mark) in
      let none = stretches_same marks mark ends.at ends.last (alike is_broken broken_sort broken_by (mark_at marks ends.at) mark (ends.sort ∙ same)) in
      ap (λ (b : Bool). counts.runs + cond b 1 0) joined ∙ (h.runs ∙ sym none)

  pub counts_same : AreCountsBefore counts (Some (record { first = opened.first; mark = join opened.mark mark })) (step + 1) (marks ++ mark ∷ [])
  counts_same = record {
    all = one_same is_any (λ s. true) any_by counts.all h.all;
    nothing = one_same is_nothing nothing_sort nothing_by counts.nothing h.nothing;
    broken = one_same is_broken broken_sort broken_by counts.broken h.broken;
    undecided = one_same is_undecided undecided_sort undecided_by counts.undecided h.undecided;
    runs = runs_same;
  }

-- ---- the counts of all marks

tells : (n more all most : ℕ) → n + more ≡ all → all ≤ most → most < 2 ^ 32 → told (n + more) ≡ all
tells n more all most e le lt = omega arith

as_before : (n all : ℕ) → n + 0 ≡ all → n ≡ all
as_before n all e = omega arith

pub counts_after : (counts : MarkCounts) (opened : Opened) (step : ℕ) (marks : List Mark) → step < 2 ^ 32 → length marks ≤ step → AreCountsBefore counts (Some opened) step marks
    → AreCounts (with_stretch counts opened step) marks
counts_after counts opened step marks small le h = by opened.mark (λ test. few test marks) (few_stretches marks) h.all h.nothing h.broken h.undecided h.runs
  where
    by : (mark : Mark) → ((test : Mark → Bool) → passing test marks ≤ length marks) → broken_stretches marks ≤ length marks
        → counts.all + cond (is_any mark) (step - opened.first) 0 ≡ passing is_any marks
        → counts.nothing + cond (is_nothing mark) (step - opened.first) 0 ≡ passing is_nothing marks
        → counts.broken + cond (is_broken mark) (step - opened.first) 0 ≡ passing is_broken marks
        → counts.undecided + cond (is_undecided mark) (step - opened.first) 0 ≡ passing is_undecided marks
        → counts.runs + cond (is_broken mark) 1 0 ≡ broken_stretches marks
        → AreCounts (with_stretch counts (record { first = opened.first; mark = mark }) step) marks
    by mark.Nothing few few_runs a n b u r = record {
      all = tells _ _ _ _ a (few is_any) (omega arith);
      nothing = tells _ _ _ _ n (few is_nothing) (omega arith);
      broken = as_before _ _ b;
      undecided = as_before _ _ u;
      runs = as_before _ _ r;
    }
    by mark.Broken few few_runs a n b u r = record {
      all = tells _ _ _ _ a (few is_any) (omega arith);
      nothing = as_before _ _ n;
      broken = tells _ _ _ _ b (few is_broken) (omega arith);
      undecided = as_before _ _ u;
      runs = tells _ _ _ _ r few_runs (omega arith);
    }
    by mark.Undecided few few_runs a n b u r = record {
      all = tells _ _ _ _ a (few is_any) (omega arith);
      nothing = as_before _ _ n;
      broken = as_before _ _ b;
      undecided = tells _ _ _ _ u (few is_undecided) (omega arith);
      runs = as_before _ _ r;
    }
    by (mark.Engaged kind least) few few_runs a n b u r = record {
      all = tells _ _ _ _ a (few is_any) (omega arith);
      nothing = as_before _ _ n;
      broken = as_before _ _ b;
      undecided = as_before _ _ u;
      runs = as_before _ _ r;
    }

pub counts_none : (counts : MarkCounts) (step : ℕ) (marks : List Mark) → AreCountsBefore counts None step marks → AreCounts counts marks
counts_none counts step marks h = record {
  all = as_before _ _ h.all;
  nothing = as_before _ _ h.nothing;
  broken = as_before _ _ h.broken;
  undecided = as_before _ _ h.undecided;
  runs = as_before _ _ h.runs;
}

-- ---- the first mark of a stretch

begins : (test : Mark → Bool) (mark : Mark) (marks : List Mark) (n step : ℕ) → n ≡ passing test marks → n + cond (test mark) ((step + 1) - step) 0 ≡ passing test (marks ++ mark ∷ [])
begins test mark marks n step e = by (test mark) (one_more test marks mark)
  where
    by : (b : Bool) → passing test (marks ++ mark ∷ []) ≡ passing test marks + cond b 1 0 → n + cond b ((step + 1) - step) 0 ≡ passing test (marks ++ mark ∷ [])
    by true h = omega arith
    by false h = omega arith

counts_begun : (counts : MarkCounts) (mark : Mark) (step : ℕ) (marks : List Mark) → broken_stretches (marks ++ mark ∷ []) ≡ broken_stretches marks + cond (is_broken mark) 1 0 → AreCounts counts marks
    → AreCountsBefore counts (Some (record { first = step; mark = mark })) (step + 1) (marks ++ mark ∷ [])
counts_begun counts mark step marks one h = record {
  all = begins is_any mark marks counts.all step h.all;
  nothing = begins is_nothing mark marks counts.nothing step h.nothing;
  broken = begins is_broken mark marks counts.broken step h.broken;
  undecided = begins is_undecided mark marks counts.undecided step h.undecided;
  runs = ap (λ (n : ℕ). n + cond (is_broken mark) 1 0) h.runs ∙ sym one;
}

pub counts_first : (counts : MarkCounts) (mark : Mark) (step : ℕ) (marks : List Mark) → marks ≡ [] → AreCountsBefore counts None step marks
    → AreCountsBefore counts (Some (record { first = step; mark = mark })) (step + 1) (marks ++ mark ∷ [])
counts_first counts mark step marks empty h =
    counts_begun counts mark step marks
    (subst (λ (ms : List Mark). broken_stretches (ms ++ mark ∷ []) ≡ broken_stretches ms + cond (is_broken mark) 1 0) (sym empty) (stretches_first mark))
    (counts_none counts step marks h)

broken_both : (a b : Mark) → is_broken a ≡ true → is_broken b ≡ true → sort_of a ≡ sort_of b
broken_both mark.Broken mark.Broken e f = refl
broken_both mark.Broken mark.Nothing e f = absurd (cc)
broken_both mark.Broken mark.Undecided e f = absurd (cc)
broken_both mark.Broken (mark.Engaged kind least) e f = absurd (cc)
broken_both mark.Nothing b e f = absurd (cc)
broken_both mark.Undecided b e f = absurd (cc)
broken_both (mark.Engaged kind least) b e f = absurd (cc)

only_one : (b : Bool) → (b ≡ true → ⊥) → b ≡ false
only_one true h = absurd (h refl)
only_one false h = refl

pub counts_turned : (counts : MarkCounts) (opened : Opened) (mark : Mark) (step : ℕ) (marks : List Mark) → step < 2 ^ 32 → length marks ≤ step
    → EndsAs marks opened.mark → (sort_of opened.mark ≡ sort_of mark → ⊥)
    → AreCountsBefore counts (Some opened) step marks → AreCountsBefore (with_stretch counts opened step) (Some (record { first = step; mark = mark })) (step + 1) (marks ++ mark ∷ [])
counts_turned counts opened mark step marks small le ends other h =
    counts_begun (with_stretch counts opened step) mark step marks
    (stretches_more marks mark ends.at ends.last (λ is. only_one (is_broken (mark_at marks ends.at)) (λ was. other (sym ends.sort ∙ broken_both (mark_at marks ends.at) mark was is))))
    (counts_after counts opened step marks small le h)
