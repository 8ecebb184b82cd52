-- What is kept of each target at now.
use Rattle.std.proofs.Common.{◌≡◌, ◌∙◌, ℕ, ◌+◌, ◌-◌, ◌<◌, ◌≤◌, inl, inr, List, [], ◌∷◌, ◌++◌, length, take, get_or, refl, sym, ap, subst, arith, Bool, true, false, length-take}
use Rattle.std.proofs.lemmas.Bool.{cases_lt}
use Rattle.std.proofs.lemmas.List.{get_or_append_left, get_or_push}
use Rattle.lattice.specs.OwnMotion.{choice_in_force}
use Rattle.meetings.specs.Traces.{IsContactAt}
use Rattle.mtl_formulas.specs.FormulaTree.{FormulaTree}
use Rattle.mtl_monitor.specs.Following as monitor
use Rattle.mtl_formulas.specs.Traces.{Trace}
use Rattle.mtl_monitor.specs.declared.program.Program.{Program}
use Rattle.plan_situations.specs.FailingPlans.{AreTraceRows, BeginsAt}
use Rattle.planner.specs.Inner.Breaking.{Tells, formulas_of}
use Rattle.planner.specs.Inner.Levels.{IsToldAtNow}
use Rattle.planner.specs.Inner.Watching.{HasBegun, HasNotBegun, IsCutAtNow, Stands, StandsFor}
use Rattle.plan_situations.specs.Situations.{now_of, own_at, target_at}
use Rattle.planner.specs.declared.already.Already.{Already}
use Rattle.plan_situations.specs.declared.situation.Situation.{Situation}
use Rattle.plan_situations.specs.declared.situation.Target.{Target}
use Rattle.planner.specs.declared.watched.Watched.{Watched}
use Rattle.plan_situations.proofs.CommonLegs.{same_contact}
use Rattle.plan_situations.proofs.Lifting.{begins_too, earlier_rows, one_start, one_trace, rows_too, trace_length}

-- No plan has a choice in a step before now.
none_told : (s : Situation) (X Y : List ℕ) (step : ℕ) → step < 0 → choice_in_force s.lattice X step ≡ choice_in_force s.lattice Y step
none_told s X Y step lt = absurd (omega arith)

module _ (program : Program) (s : Situation) (T : Target) (w : Watched) where
  cut_of_begun : HasBegun program s [] T (now_of s) w → (cut : Trace) × (IsCutAtNow s T cut × monitor.Follows program w.values (formulas_of s) cut)
  cut_of_begun has = (has.rows, (record { some = some; none = none }, has.values))
    where
      within : now_of s ≤ now_of s + 0
      within = omega arith

      some : (plan : List ℕ) (at start : ℕ) (rows : Trace) → now_of s ≤ at → BeginsAt s plan at T start → AreTraceRows s plan at T start rows → take (now_of s - start) rows ≡ has.rows
      some plan at start rows le begins are =
          let mine = begins_too s [] plan 0 (none_told s [] plan) (now_of s) within T at has.start le has.begins in
          let same : start ≡ has.start = one_start s plan T at at start has.start begins mine in
          let before = has.begins.before_end in
          let early : start ≤ now_of s = omega arith in
          let front = earlier_rows s plan T (now_of s) at start rows early le are in
          let back = rows_too s plan [] 0 (none_told s plan []) (now_of s) within T start (take (now_of s - start) rows) early front in
          one_trace s [] T (now_of s) start (take (now_of s - start) rows) has.rows back (subst (λ (i : ℕ). AreTraceRows s [] (now_of s) T i has.rows) (sym same) has.are_rows)

      none : (plan : List ℕ) → ((k : ℕ) → k < now_of s → ¬ IsContactAt (own_at s plan) (target_at s T) s.detect.watch k) → has.rows ≡ []
      none plan apart = absurd (apart has.start has.begins.before_end (same_contact s [] plan 0 (none_told s [] plan) T s.detect.watch has.start (omega (arith, has.begins.before_end)) has.begins.contact))

  cut_of_none : HasNotBegun program s [] T (now_of s) w → (cut : Trace) × (IsCutAtNow s T cut × monitor.Follows program w.values (formulas_of s) cut)
  cut_of_none waits = ([], (record { some = some; none = λ plan apart. refl }, waits.values))
    where
      some : (plan : List ℕ) (at start : ℕ) (rows : Trace) → now_of s ≤ at → BeginsAt s plan at T start → AreTraceRows s plan at T start rows → take (now_of s - start) rows ≡ []
      some plan at start rows le begins are = elim (cases_lt start (now_of s)) [
        | inl lt ↦ absurd (waits.apart start lt (same_contact s plan [] 0 (none_told s plan []) T s.detect.watch start (omega arith) begins.contact))
        | inr ge ↦ (let zero_long : now_of s - start ≡ 0 = omega arith in ap (λ (n : ℕ). take n rows) zero_long)
      ]

  the_cut : StandsFor program s [] T (now_of s) w → (cut : Trace) × (IsCutAtNow s T cut × monitor.Follows program w.values (formulas_of s) cut)
  the_cut h = by w.begun refl
    where
      by : (b : Bool) → w.begun ≡ b → (cut : Trace) × (IsCutAtNow s T cut × monitor.Follows program w.values (formulas_of s) cut)
      by true e = cut_of_begun (h.begun e)
      by false e = cut_of_none (h.waits e)

  pub told_at_now : (already : Already) → StandsFor program s [] T (now_of s) w → ((formulas : List FormulaTree) (rows : Trace) → monitor.Follows program w.values formulas rows → Tells formulas rows already)
      → IsToldAtNow s T already
  told_at_now already h tells = let found = the_cut h in record { cut = found.0; is_cut = found.1.0; tells = tells (formulas_of s) found.0 found.1.1 }

  pub stands_at_now : (cut : Trace) → StandsFor program s [] T (now_of s) w → w.since_now ≡ 0 → IsCutAtNow s T cut → Stands program s [] T cut (now_of s) w
  stands_at_now cut h since is_cut = record {
    stands = h;
    counted = by w.begun refl;
    unbroken = λ start rows begins are passed after le told.
        let long = trace_length s [] T (now_of s) start rows are in
        let whole = ap length (is_cut.some [] (now_of s) start rows (omega arith) begins are) in
        absurd (omega (arith, length-take (now_of s - start) rows));
  }
    where
      by : (b : Bool) → w.begun ≡ b → monitor.fed_of w.values ≡ length cut + w.since_now
      by true e =
          let has = h.begun e in
          let long = trace_length s [] T (now_of s) has.start has.rows has.are_rows in
          let whole = ap length (is_cut.some [] (now_of s) has.start has.rows (omega arith) has.begins has.are_rows) in
          let all_fed = has.values.all_fed in
          omega (arith, length-take (now_of s - has.start) has.rows)
      by false e =
          let waits = h.waits e in
          let none = ap length (is_cut.none [] waits.apart) in
          let all_fed = waits.values.all_fed in
          omega arith

-- ---- one more target

pub push_at : {X : Type 0} (P : ℕ → X → Type 0) (xs new : List X) (y : X) → new ≡ xs ++ y ∷ [] → ((k : ℕ) (x : X) → k < length xs → P k (get_or xs k x)) → P (length xs) y
    → (k : ℕ) (x : X) → k < length xs + 1 → P k (get_or new k x)
push_at {X} P xs new y e before here k x lt = elim (cases_lt k (length xs)) [
  | inl earlier ↦ subst (P k) (sym (ap (λ (zs : List X). get_or zs k x) e ∙ get_or_append_left xs (y ∷ []) x k earlier)) (before k x earlier)
  | inr last ↦ (let at : length xs ≡ k = omega arith in
      subst (P k) (sym (ap (λ (zs : List X). get_or zs k x) e ∙ get_or_push xs y x k at)) (subst (λ (i : ℕ). P i y) at here))
]
