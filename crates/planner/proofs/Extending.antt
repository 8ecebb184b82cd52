-- One more leg after a prefix.
use Rattle.std.proofs.Common.{◌≡◌, ◌∙◌, ℕ, ◌+◌, ◌-◌, ◌*◌, ◌/◌, ◌%◌, ◌^◌, ◌<◌, ◌≤◌, ◌⊎◌, inl, inr, List, [], ◌∷◌, ◌++◌, length, take, get_or, refl, sym, ap, subst, arith, add-one, Some, None}
use Rattle.std.proofs.lemmas.Bool.{cases_lt}
use Rattle.std.proofs.lemmas.List.{get_or_append_left, get_or-take}
use Rattle.std.proofs.Math.Nat.{mul-le-mul_right, pow-suc}
use Rattle.std.proofs.lemmas.Nat.{div_below}
use Rattle.std.specs.Prelude.{Option, IsNone, IsSomeAnd, MatchOption, slice_get, slice_index}
use Rattle.encounters.specs.declared.pair_step.PairStep.{PairStep}
use Rattle.lattice.specs.Grids.{Grid, choices_of, positions_of}
use Rattle.lattice.specs.OwnMotion.{choice_in_force}
use Rattle.lattice.specs.PlanNumbers.{plan_of}
use Rattle.lattice.specs.declared.under_way.UnderWay.{UnderWay}
use Rattle.lattice.proofs.Digits.{length-plan_of, plan_none}
use Rattle.meetings.specs.Standing as meetings
use Rattle.mtl_formulas.specs.Traces.{Trace}
use Rattle.mtl_monitor.specs.declared.program.Program.{Program}
use Rattle.plan_situations.specs.FailingPlans.{BreaksARule, EntersAt, EntersDomain, FailsBy, FailsTowards, Some_}
use Rattle.planner.specs.Inner.Legs.{IsPathIn, IsPlannedLeg, lasts, legs_before, legs_through}
use Rattle.planner.specs.Inner.Levels.{AreEarly, IsAfter, IsPrepared, StandsAt, StaysOut}
use Rattle.planner.specs.Walks.{IsFirstFailing}
use Rattle.motion.specs.declared.leg.TickState.{TickState}
use Rattle.plan_situations.specs.Paths.{EntersAlong, HasReached, start_of}
use Rattle.planner.specs.Inner.Watching.{Stands, StandsFor}
use Rattle.plan_situations.specs.Prefixes.{PrefixFails, reached, steps_told}
use Rattle.plan_situations.specs.Situations.{end_of, now_of, terms_of}
use Rattle.planner.specs.declared.basis.SearchBasis.{SearchBasis}
use Rattle.planner.specs.declared.legs.PlannedLeg.{PlannedLeg}
use Rattle.planner.specs.declared.level.Level.{Level}
use Rattle.plan_situations.specs.declared.situation.Situation.{Situation}
use Rattle.plan_situations.specs.declared.situation.Target.{Target}
use Rattle.planner.specs.declared.watched.Watched.{Watched}
use Rattle.plan_situations.proofs.Blocks.{shared, told_within}
use Rattle.plan_situations.proofs.CommonLegs.{in_force, same_contact, same_reached, same_steps, when_less, when_not_less}
use Rattle.plan_situations.proofs.FlatList.{none_some}
use Rattle.plan_situations.proofs.Lifting.{begins_too, enters_too, fails_too, fails_towards_too, rows_too, some_weaker}

-- ---- how long a leg lasts

pub leg_begins : (grid : Grid) (leg : ℕ) → leg < grid.legs → steps_told grid leg ≡ leg * grid.leg_ticks
leg_begins grid leg lt = when_less leg grid.legs (leg * grid.leg_ticks) (positions_of grid) lt

pub leg_ends : (s : Situation) (leg : ℕ) → leg < s.lattice.legs → leg * s.lattice.leg_ticks + lasts s leg ≡ steps_told s.lattice (leg + 1)
leg_ends s leg lt = elim (cases_lt (leg + 1) s.lattice.legs) [
  | inl more ↦ (let a = when_less (leg + 1) s.lattice.legs s.lattice.leg_ticks (positions_of s.lattice - leg * s.lattice.leg_ticks) more in
      let b = when_less (leg + 1) s.lattice.legs ((leg + 1) * s.lattice.leg_ticks) (positions_of s.lattice) more in
      ap (λ (k : ℕ). leg * s.lattice.leg_ticks + k) a ∙ (next ∙ sym b))
  | inr last ↦ (let a = when_not_less (leg + 1) s.lattice.legs s.lattice.leg_ticks (positions_of s.lattice - leg * s.lattice.leg_ticks) last in
      let b = when_not_less (leg + 1) s.lattice.legs ((leg + 1) * s.lattice.leg_ticks) (positions_of s.lattice) last in
      let le : leg ≤ s.lattice.legs = omega arith in
      let within = mul-le-mul_right s.lattice.leg_ticks le in
      let all : leg * s.lattice.leg_ticks + (positions_of s.lattice - leg * s.lattice.leg_ticks) ≡ positions_of s.lattice = omega arith in
      ap (λ (k : ℕ). leg * s.lattice.leg_ticks + k) a ∙ (all ∙ sym b))
]
  where
    next : leg * s.lattice.leg_ticks + s.lattice.leg_ticks ≡ (leg + 1) * s.lattice.leg_ticks
    next = omega arith

-- ---- prefixes

-- a prefix with one more leg begins with the prefix
pub prefix_front : (c leg number : ℕ) → plan_of c (leg + 1) number ≡ plan_of c leg (number / c) ++ number % c ∷ []
unfolding plan_of
prefix_front c leg number = rw add-one refl

pub shares_prefix : (c leg number : ℕ) (W : List ℕ) → take (leg + 1) W ≡ plan_of c (leg + 1) number → (i : ℕ) → i < leg + 1 → slice_index (plan_of c (leg + 1) number) i ≡ slice_index W i
shares_prefix c leg number W e i lt = ap (λ (ds : List ℕ). slice_index ds i) (sym e) ∙ get_or-take (leg + 1) W i 0 lt

pub shares_front : (c leg number : ℕ) (W : List ℕ) → take (leg + 1) W ≡ plan_of c (leg + 1) number → (i : ℕ) → i < leg → slice_index (plan_of c leg (number / c)) i ≡ slice_index W i
shares_front c leg number W e i lt =
    let long = length-plan_of c leg (number / c) in
    sym (get_or_append_left (plan_of c leg (number / c)) (number % c ∷ []) 0 i (omega arith))
    ∙ (ap (λ (ds : List ℕ). slice_index ds i) (sym (prefix_front c leg number)) ∙ shares_prefix c leg number W e i (omega arith))

-- without its last leg a prefix has one of the shorter ones' numbers
pub shorter_number : (c legs number : ℕ) → 1 ≤ c → number < c ^ (legs + 1) → number / c < c ^ legs
shorter_number c legs number some lt =
    let next : c ^ (legs + 1) ≡ c ^ legs * c = ap (λ (n : ℕ). c ^ n) (add-one legs) ∙ pow-suc c legs in
    div_below number c (c ^ legs) (omega arith) (subst (λ (n : ℕ). number < n) next lt)

-- ---- where own ship is after a prefix

pub reached_prefix : (s : Situation) (leg number : ℕ) (W : List ℕ) (own : UnderWay) → leg < s.lattice.legs → take leg W ≡ plan_of (choices_of s.lattice) leg number
    → HasReached s W (leg * s.lattice.leg_ticks) own → HasReached s (plan_of (choices_of s.lattice) leg number) (leg * s.lattice.leg_ticks) own
reached_prefix s leg number W own lt e h =
    let X = plan_of (choices_of s.lattice) leg number in
    let alike : (i : ℕ) → i < leg → slice_index W i ≡ slice_index X i = λ i less. sym (get_or-take leg W i 0 less) ∙ ap (λ (ds : List ℕ). slice_index ds i) e in
    let told = leg_begins s.lattice leg lt in
    same_reached s.lattice W X (steps_told s.lattice leg) (in_force s.lattice W X leg alike (omega arith) (inr lt)) s.tick (start_of s) own (leg * s.lattice.leg_ticks) (omega arith) h

pub reached_front : (s : Situation) (leg number : ℕ) (W : List ℕ) (own : UnderWay) → leg < s.lattice.legs → take (leg + 1) W ≡ plan_of (choices_of s.lattice) (leg + 1) number
    → HasReached s (plan_of (choices_of s.lattice) leg (number / choices_of s.lattice)) (leg * s.lattice.leg_ticks) own → HasReached s W (leg * s.lattice.leg_ticks) own
reached_front s leg number W own lt e h =
    let X = plan_of (choices_of s.lattice) leg (number / choices_of s.lattice) in
    let told = leg_begins s.lattice leg lt in
    same_reached s.lattice X W (steps_told s.lattice leg) (in_force s.lattice X W leg (shares_front (choices_of s.lattice) leg number W e) (omega arith) (inr lt)) s.tick (start_of s) own
    (leg * s.lattice.leg_ticks) (omega arith) h

-- ---- what is kept stands for each plan that has the legs in common

module _ (s : Situation) (X Y : List ℕ) (n : ℕ) (same : (step : ℕ) → step < n → choice_in_force s.lattice X step ≡ choice_in_force s.lattice Y step) (at : ℕ) (told : at ≤ now_of s + n) where
  back : (step : ℕ) → step < n → choice_in_force s.lattice Y step ≡ choice_in_force s.lattice X step
  back step lt = sym (same step lt)

  pub stands_for_too : (program : Program) (T : Target) (w : Watched) → StandsFor program s X T at w → StandsFor program s Y T at w
  stands_for_too program T w h = record {
    begun = λ holds. let has = h.begun holds in let before = has.begins.before_end in record {
      start = has.start;
      rows = has.rows;
      begins = begins_too s X Y n same at told T at has.start (omega arith) has.begins;
      are_rows = rows_too s X Y n same at told T has.start has.rows (omega arith) has.are_rows;
      follows = subst (λ (steps : List (Option PairStep)). meetings.Follows w.follower (terms_of s) steps) (same_steps s X Y n same T has.start (at - has.start) (omega arith)) has.follows;
      values = has.values;
    };
    waits = λ fails_so. let waits = h.waits fails_so in record {
      apart = λ k lt contact. waits.apart k lt (same_contact s Y X n back T s.detect.watch k (omega arith) contact);
      follows = waits.follows;
      values = waits.values;
    };
  }

  pub stands_too : (program : Program) (T : Target) (cut : Trace) (w : Watched) → Stands program s X T cut at w → Stands program s Y T cut at w
  stands_too program T cut w h = record {
    stands = stands_for_too program T w h.stands;
    counted = h.counted;
    unbroken = λ start rows begins are passed after le told_there. let before = begins.before_end in
        h.unbroken start rows (begins_too s Y X n back at told T at start (omega arith) begins) (rows_too s Y X n back at told T start rows (omega arith) are) passed after le told_there;
  }

pub level_too : (s : Situation) (basis : SearchBasis) (X Y : List ℕ) (n : ℕ) → ((step : ℕ) → step < n → choice_in_force s.lattice X step ≡ choice_in_force s.lattice Y step)
    → (at : ℕ) → at ≤ now_of s + n → (watched : List Watched) → StandsAt s basis X at watched → StandsAt s basis Y at watched
level_too s basis X Y n same at told watched h = λ k t a w cut lt is_cut tells.
    stands_too s X Y n same at told basis.program (get_or s.targets k t) cut (get_or watched k w) (h k t a w cut lt is_cut tells)

-- ---- whether the longer prefix fails

module _ (s : Situation) (W : List ℕ) (from steps : ℕ) (from_now : now_of s ≤ from) where
  pub along_enters : (T : Target) → EntersAlong s W T from steps → EntersDomain s W (from + steps) T
  along_enters T e = let lt = e.within in record {
    step = from + e.ahead;
    from_now = omega arith;
    planned = omega arith;
    enters = e.enters;
  }

  pub along_fails : Some_ (λ (T : Target). EntersAlong s W T from steps) s.targets → FailsBy s (from + steps) W
  along_fails h = some_weaker (λ (T : Target). EntersAlong s W T from steps) (FailsTowards s W (from + steps)) s.targets (λ T e. inl (along_enters T e)) h

  -- on the way here, or from here on
  pub here_or_along : (T : Target) → EntersDomain s W (from + steps) T → EntersDomain s W from T ⊎ EntersAlong s W T from steps
  here_or_along T e = let planned = e.planned in elim (cases_lt e.step from) [
    | inl before ↦ inl (record { step = e.step; from_now = e.from_now; planned = before; enters = e.enters })
    | inr after ↦ (let there : e.step ≡ from + (e.step - from) = omega arith in inr (record {
      ahead = e.step - from;
      within = omega arith;
      enters = subst (λ (i : ℕ). EntersAt s W T i) there e.enters;
    }))
  ]

  -- neither on the way here, nor from here on
  pub still_out : StaysOut s W from → (¬ Some_ (λ (T : Target). EntersAlong s W T from steps) s.targets) → StaysOut s W (from + steps)
  still_out outside along (k, h) = one (slice_get s.targets k) (λ P p. (k, p)) h
    where
      one : (o : Option Target) → ((P : Target → Type 0) → IsSomeAnd o P → Some_ P s.targets) → IsSomeAnd o (EntersDomain s W (from + steps)) → ⊥
      one None f h = h
      one (Some T) f h = elim (here_or_along T h) [
        | inl before ↦ outside (f (EntersDomain s W from) before)
        | inr after ↦ along (f (λ (T : Target). EntersAlong s W T from steps) after)
      ]

module _ (s : Situation) (W : List ℕ) (at : ℕ) where
  pub breaks_fails : Some_ (BreaksARule s W at) s.targets → FailsBy s at W
  breaks_fails h = some_weaker (BreaksARule s W at) (FailsTowards s W at) s.targets (λ T b. inr b) h

  pub none_fails : StaysOut s W at → (¬ Some_ (BreaksARule s W at) s.targets) → ¬ FailsBy s at W
  none_fails outside breaks (k, h) = one (slice_get s.targets k) (λ P p. (k, p)) h
    where
      one : (o : Option Target) → ((P : Target → Type 0) → IsSomeAnd o P → Some_ P s.targets) → IsSomeAnd o (FailsTowards s W at) → ⊥
      one None f h = h
      one (Some T) f (inl e) = outside (f (EntersDomain s W at) e)
      one (Some T) f (inr b) = breaks (f (BreaksARule s W at) b)

-- ---- from the legs before a leg to the plan that is followed, and back to the legs up to it

module _ (s : Situation) (leg : PlannedLeg) (is : IsPlannedLeg s leg) where
  some : 1 ≤ s.lattice.legs
  some = let inside = is.inside in omega arith

  same_before : (step : ℕ) → step < steps_told s.lattice leg.index → choice_in_force s.lattice (legs_before s leg) step ≡ choice_in_force s.lattice leg.plan step
  same_before = shared s.lattice (legs_before s leg) leg.plan leg.index some (shares_front (choices_of s.lattice) leg.index leg.number leg.plan is.shares)

  same_through : (step : ℕ) → step < steps_told s.lattice (leg.index + 1) → choice_in_force s.lattice (legs_through s leg) step ≡ choice_in_force s.lattice leg.plan step
  same_through = shared s.lattice (legs_through s leg) leg.plan (leg.index + 1) some (shares_prefix (choices_of s.lattice) leg.index leg.number leg.plan is.shares)

  within : (legs : ℕ) → reached s legs ≤ now_of s + steps_told s.lattice legs
  within legs = omega arith

  from_now : (legs : ℕ) → now_of s ≤ reached s legs
  from_now legs = omega arith

  same_tick : (at : ℕ) → at ≤ at
  same_tick at = omega arith

  pub level_before : (basis : SearchBasis) (watched : List Watched) → StandsAt s basis (legs_before s leg) (reached s leg.index) watched → StandsAt s basis leg.plan (reached s leg.index) watched
  level_before basis watched h = level_too s basis (legs_before s leg) leg.plan (steps_told s.lattice leg.index) same_before (reached s leg.index) (within leg.index) watched h

  pub level_through : (basis : SearchBasis) (watched : List Watched) → StandsAt s basis leg.plan (reached s (leg.index + 1)) watched
      → StandsAt s basis (legs_through s leg) (reached s (leg.index + 1)) watched
  level_through basis watched h = level_too s basis leg.plan (legs_through s leg) (steps_told s.lattice (leg.index + 1)) (λ step lt. sym (same_through step lt))
      (reached s (leg.index + 1)) (within (leg.index + 1)) watched h

  pub out_before : StaysOut s (legs_before s leg) (reached s leg.index) → StaysOut s leg.plan (reached s leg.index)
  out_before outside h = outside (some_weaker (EntersDomain s leg.plan (reached s leg.index)) (EntersDomain s (legs_before s leg) (reached s leg.index)) s.targets
      (λ T. enters_too s leg.plan (legs_before s leg) (steps_told s.lattice leg.index) (λ step lt. sym (same_before step lt))
      (reached s leg.index) (within leg.index) T (reached s leg.index) (same_tick (reached s leg.index))) h)

  pub out_through : StaysOut s leg.plan (reached s (leg.index + 1)) → StaysOut s (legs_through s leg) (reached s (leg.index + 1))
  out_through outside h = outside (some_weaker (EntersDomain s (legs_through s leg) (reached s (leg.index + 1))) (EntersDomain s leg.plan (reached s (leg.index + 1))) s.targets
      (λ T. enters_too s (legs_through s leg) leg.plan (steps_told s.lattice (leg.index + 1)) same_through
      (reached s (leg.index + 1)) (within (leg.index + 1)) T (reached s (leg.index + 1)) (same_tick (reached s (leg.index + 1)))) h)

  pub to_before : FailsBy s (reached s leg.index) leg.plan → PrefixFails s (legs_before s leg)
  to_before h = subst (λ (n : ℕ). FailsBy s (reached s n) (legs_before s leg)) (sym (length-plan_of (choices_of s.lattice) leg.index (leg.number / choices_of s.lattice)))
      (fails_too s leg.plan (legs_before s leg) (steps_told s.lattice leg.index) (λ step lt. sym (same_before step lt))
      (reached s leg.index) (within leg.index) (reached s leg.index) (same_tick (reached s leg.index)) (from_now leg.index) h)

  long : length (legs_through s leg) ≡ leg.index + 1
  long = length-plan_of (choices_of s.lattice) (leg.index + 1) leg.number

  pub to_through : FailsBy s (reached s (leg.index + 1)) leg.plan → PrefixFails s (legs_through s leg)
  to_through h = subst (λ (n : ℕ). FailsBy s (reached s n) (legs_through s leg)) (sym long)
      (fails_too s leg.plan (legs_through s leg) (steps_told s.lattice (leg.index + 1)) (λ step lt. sym (same_through step lt))
      (reached s (leg.index + 1)) (within (leg.index + 1)) (reached s (leg.index + 1)) (same_tick (reached s (leg.index + 1))) (from_now (leg.index + 1)) h)

  pub from_through : PrefixFails s (legs_through s leg) → FailsBy s (reached s (leg.index + 1)) leg.plan
  from_through h = fails_too s (legs_through s leg) leg.plan (steps_told s.lattice (leg.index + 1)) same_through
      (reached s (leg.index + 1)) (within (leg.index + 1)) (reached s (leg.index + 1)) (same_tick (reached s (leg.index + 1))) (from_now (leg.index + 1))
      (subst (λ (n : ℕ). FailsBy s (reached s n) (legs_through s leg)) long h)

-- ---- ticks

-- If a path has the states of a leg's ticks and one more, it ends with the leg, and within the plan.
pub ends_there : (s : Situation) (leg : PlannedLeg) → IsPlannedLeg s leg → (count : ℕ) → count ≡ lasts s leg.index + 1
    → (leg.begins + count ≡ steps_told s.lattice (leg.index + 1) + 1) × (leg.begins + count ≤ positions_of s.lattice + 1)
ends_there s leg is count e =
    let from = is.from in
    let begins = leg_begins s.lattice leg.index is.inside in
    let ends = leg_ends s leg.index is.inside in
    let until : leg.begins + count ≡ steps_told s.lattice (leg.index + 1) + 1 = omega arith in
    let le = told_within s.lattice (leg.index + 1) in
    (until, omega arith)

-- What was fed up to the end of some legs was fed up to the plan's end.
pub early_to_end : (s : Situation) (legs : ℕ) (watched : List Watched) → AreEarly (reached s legs) watched → AreEarly (end_of s) watched
early_to_end s legs watched h = λ k d lt.
    let early = h k d lt in
    let fed = early.fed in
    let since = early.since in
    let le = told_within s.lattice legs in
    record { fed = omega arith; since = omega arith }

-- Nothing was entered before now.
pub out_at_now : (s : Situation) (X : List ℕ) → 1 ≤ s.lattice.legs → StaysOut s X (reached s 0)
out_at_now s X some h =
    let at : steps_told s.lattice 0 ≡ 0 * s.lattice.leg_ticks = leg_begins s.lattice 0 some in
    none_some (EntersDomain s X (reached s 0)) s.targets (λ k T lt e. let from = e.from_now in let to = e.planned in absurd (omega arith)) h

pub reached_none : (s : Situation) → 1 ≤ s.lattice.legs → reached s 0 ≡ now_of s
reached_none s some = let at : steps_told s.lattice 0 ≡ 0 * s.lattice.leg_ticks = leg_begins s.lattice 0 some in omega arith

-- ---- one leg, and one target

module _ (s : Situation) (leg : PlannedLeg) (is : IsPlannedLeg s leg) (path : List TickState) (on : IsPathIn s leg path) (T : Target) where
  begins_there : reached s leg.index ≡ now_of s + leg.begins
  begins_there = let from = is.from in omega arith

  ends_then : now_of s + leg.begins + (length path - 1) ≡ reached s (leg.index + 1)
  ends_then = let some = on.some in let until = on.until in omega arith

  pub enters_in_leg : EntersAlong s leg.plan T (now_of s + leg.begins) (length path - 1) → EntersDomain s leg.plan (reached s (leg.index + 1)) T
  enters_in_leg h =
      subst (λ (at : ℕ). EntersDomain s leg.plan at T) ends_then (along_enters s leg.plan (now_of s + leg.begins) (length path - 1) (omega arith) T h)

  pub enters_before_or_in : EntersDomain s leg.plan (reached s (leg.index + 1)) T
      → EntersDomain s leg.plan (reached s leg.index) T ⊎ EntersAlong s leg.plan T (now_of s + leg.begins) (length path - 1)
  enters_before_or_in h =
      subst (λ (at : ℕ). EntersDomain s leg.plan at T ⊎ EntersAlong s leg.plan T (now_of s + leg.begins) (length path - 1)) (sym begins_there)
      (here_or_along s leg.plan (now_of s + leg.begins) (length path - 1) (omega arith) T (subst (λ (at : ℕ). EntersDomain s leg.plan at T) (sym ends_then) h))

-- ---- the plans that have the legs of a leg's number in common fail alike up to where it ends

module _ (s : Situation) (leg : PlannedLeg) (is : IsPlannedLeg s leg) (X : List ℕ) (alike : take (leg.index + 1) X ≡ legs_through s leg) where
  same_there : (step : ℕ) → step < steps_told s.lattice (leg.index + 1) → choice_in_force s.lattice X step ≡ choice_in_force s.lattice leg.plan step
  same_there = let inside = is.inside in shared s.lattice X leg.plan (leg.index + 1) (omega arith)
      (λ i lt. sym (get_or-take (leg.index + 1) X i 0 lt)
      ∙ (ap (λ (ds : List ℕ). slice_index ds i) (alike ∙ sym is.shares) ∙ get_or-take (leg.index + 1) leg.plan i 0 lt))

  abbrev end : ℕ
  end = reached s (leg.index + 1)

  pub fails_there : (T : Target) → FailsTowards s X end T → FailsTowards s leg.plan end T
  fails_there T = fails_towards_too s X leg.plan (steps_told s.lattice (leg.index + 1)) same_there end (omega arith) T end (omega arith) (omega arith)

  pub fails_here : (T : Target) → FailsTowards s leg.plan end T → FailsTowards s X end T
  fails_here T = fails_towards_too s leg.plan X (steps_told s.lattice (leg.index + 1)) (λ step lt. sym (same_there step lt)) end (omega arith) T end (omega arith) (omega arith)

  pub first_here : (found : Option ℕ) → MatchOption found (¬ FailsBy s end leg.plan) (IsFirstFailing s leg.plan end) → MatchOption found (¬ FailsBy s end X) (IsFirstFailing s X end)
  first_here None h = λ fails. h (some_weaker (FailsTowards s X end) (FailsTowards s leg.plan end) s.targets fails_there fails)
  first_here (Some k) h = record {
    inside = h.inside;
    fails = λ d. fails_here (get_or s.targets k d) (h.fails d);
    before = λ i d lt fails. h.before i d lt (fails_there (get_or s.targets i d) fails);
  }

pub none_found : (P : Type 0) (Q : ℕ → Type 0) (found : Option ℕ) → IsNone found → MatchOption found P Q → P
none_found P Q None e h = h
none_found P Q (Some k) e h = absurd cc

-- a plan that does not fail enters no domain
pub out_of_all : (s : Situation) (W : List ℕ) (at : ℕ) → (¬ FailsBy s at W) → StaysOut s W at
out_of_all s W at passes h = passes (some_weaker (EntersDomain s W at) (FailsTowards s W at) s.targets (λ T e. inl e) h)

-- What is kept at now stands for no legs.
pub after_none : (s : Situation) (basis : SearchBasis) (start : Level) → IsPrepared s basis start → IsAfter s basis 0 0 start
after_none s basis start prepared =
    let some = prepared.is_basis.is_situation.some_leg in
    let now = sym (reached_none s some) in
    record {
      targets = prepared.targets;
      early = subst (λ (at : ℕ). AreEarly at start.watched.items) now prepared.early;
      stands = subst (λ (plan : List ℕ). StandsAt s basis plan (reached s 0) start.watched.items) (sym (plan_none (choices_of s.lattice) 0))
          (subst (λ (at : ℕ). StandsAt s basis [] at start.watched.items) now prepared.stands);
      outside = out_at_now s _ some;
    }
