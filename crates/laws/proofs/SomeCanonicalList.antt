-- If every plan fails, that there is no canonical list of why is refuted: the walk over the prefixes finds one.
use Rattle.std.proofs.Common.{ℕ, zero, suc, ◌≡◌, ◌∙◌, ◌+◌, ◌*◌, ◌-◌, ◌^◌, ◌≤◌, ◌<◌, inl, inr, List, [], ◌∷◌, ◌++◌, length, take, get_or, Option, None, Some, refl, sym, ap, subst, arith}
use Rattle.std.specs.Prelude.{IfSome, IsSomeAnd, slice_get, ◌↔◌}
use Rattle.std.specs.List.{Contains}
use Rattle.std.proofs.lemmas.List.{get_or_default}
use Rattle.std.proofs.lemmas.List.Elements.{Contains-get_or}
use Rattle.std.proofs.Math.Nat.{pow-zero}
use Rattle.closest_approach.specs.declared.nearest.Moment.{Moment}
use Rattle.encounters.specs.declared.pair_step.PairStep.{PairStep}
use Rattle.hull_domains.specs.Shapes.{IsShape}
use Rattle.lattice.specs.Grids.{choices_of, plans_of}
use Rattle.lattice.specs.PlanNumbers.{IsPlan, plan_of}
use Rattle.lattice.proofs.Digits.{below_plan_of, length-plan_of}
use Rattle.meetings.specs.Ranks.{all_power_driven}
use Rattle.meetings.specs.Traces.{step_at, steps_from}
use Rattle.mtl_formulas.specs.FormulaTree.{FormulaTree}
use Rattle.plan_situations.specs.Domains.{Enters, IsEntry as IsDomainEntry, moment_of}
use Rattle.plan_situations.specs.FailingPlans.{BreaksARule, BreaksAt, EntersAt, EntersDomain, FailsBy, FailsTowards, NewlyBreaks, Some_}
use Rattle.plan_situations.specs.LeastPlans.{AllFail, numbered}
use Rattle.plan_situations.specs.Prefixes.{PrefixFails, reached}
use Rattle.plan_situations.specs.Reasons.{BreaksSomewhere, HasReason, RuleBreaksAt}
use Rattle.plan_situations.specs.Situations.{IsSituation, now_of, own_at, target_at, terms_of}
use Rattle.plan_situations.specs.declared.situation.Situation.{Situation}
use Rattle.plan_situations.specs.declared.situation.Target.{Target}
use Rattle.plan_situations.proofs.ForCallers.{breaks_at, failing_reason, first_plan_numbered, rule_known, rule_there}
use Rattle.refutation_search.specs.CanonicalLists.{IsCanonical, IsFirstGood}
use Rattle.refutation_search.specs.Inner.Walks.{IsFirstTowards, IsWalkedTo, NoneIsShorter, first_extension}
use Rattle.refutation_search.proofs.FirstEntries.{broken_first, entry_first, first_good_at}
use Rattle.refutation_search.proofs.Walking.{begins_so, blocks_begin, blocks_end, listed_next, longer_below, none_longer, passes_longer, walked_canonical, whole_passes}
use Rattle.refutations.specs.RightLists.{IsEntry}
use Rattle.refutations.proofs.Blocks.{here, there}
use Rattle.refutations.proofs.FoundTargets.{element}
use Rattle.refutations.specs.declared.entry.Reason.{Reason}
use Rattle.refutations.specs.declared.entry.Reason.TheVariants.{Domain, Rule}
use Rattle.refutations.specs.declared.entry.WhyEntry.{WhyEntry}
use Rattle.rule_set.specs.NamedTrees.{rule_at}
use Rattle.laws.proofs.HaveRows.{HaveRows}
use Rattle.laws.proofs.Moments.{has_moments}
use Rattle.laws.proofs.Refuted.{IsLeast, LeastOrNone, holds_or_not, least_or_none}

module _ (rows_of : HaveRows) (s : Situation) (sound : IsSituation s) (shape : IfSome s.shape IsShape) where
  reasons : (plan : List ℕ) (last : ℕ) → FailsBy s last plan ↔ Some_ (HasReason s plan last) s.targets
  reasons plan last = failing_reason s plan last (λ T start. rows_of (terms_of s) all_power_driven (steps_from (own_at s plan) (target_at s T) start (last - start)))

  -- ---- the first reason towards a target

  module _ (plan : List ℕ) (is_plan : IsPlan (choices_of s.lattice) s.lattice.legs plan) (until : ℕ) (T : Target) (is_target : Contains s.targets T) where
    abbrev IsEntered : ℕ → Type 0
    IsEntered step = (now_of s ≤ step) × EntersAt s plan T step

    entered_by : (step : ℕ) (o : Option PairStep) → now_of s ≤ step → step_at (own_at s plan) (target_at s T) step ≡ o → IsSomeAnd o (Enters s T)
        → (moment : Moment) × IsSomeAnd o (λ pair. IsDomainEntry s T pair moment)
    entered_by step None from is h = absurd h
    entered_by step (Some pair) from is h = (moment_of s T pair, has_moments s sound shape plan T step pair is_target from is h)

    entry_reason : (step : ℕ) → step < until → IsLeast IsEntered step → (reason : Reason) × IsFirstTowards s plan until T reason
    entry_reason step lt least =
        let entry = entered_by step (step_at (own_at s plan) (target_at s T) step) least.here.0 refl least.here.1 in (
          Domain step entry.0,
          entry_first s plan until T (record { step = step; moment = entry.0 }) (record {
            from_now = least.here.0;
            planned = lt;
            enters = entry.1;
            no_step_before = λ earlier from less enters. least.before earlier less (from, enters);
          }),
        )

    -- a rule that is newly broken is so at the position of a step
    broken_step : (f : FormulaTree) → NewlyBreaks s plan until T f → (step : ℕ) × BreaksAt s plan until T f step
    broken_step f h =
        let found = rows_of (terms_of s) all_power_driven (steps_from (own_at s plan) (target_at s T) h.start (until - h.start)) in
        let broken = h.breaks found.0 found.1 in
        (h.start + broken.position, breaks_at s plan T until h.start h.begins found.0 found.1 f broken.position broken.here)

    broken_somewhere : BreaksARule s plan until T → BreaksSomewhere s plan until T
    broken_somewhere (rule, h) =
        let known = rule_there s.rules (NewlyBreaks s plan until T) rule h in
        let found = broken_step (rule_at s.rules rule).tree known.1 in
        record { step = found.0; rule = rule; breaks = rule_known s.rules (λ (f : FormulaTree). BreaksAt s plan until T f found.0) rule known.0 found.1 }

    abbrev BreaksSome : ℕ → Type 0
    BreaksSome step = (rule : ℕ) × RuleBreaksAt s plan until T step rule

    rule_before : (step rule : ℕ) → RuleBreaksAt s plan until T step rule → (rule < length s.rules) × (step < until)
    rule_before step rule h = let known = rule_there s.rules (λ (f : FormulaTree). BreaksAt s plan until T f step) rule h in (known.0, known.1.before)

    module _ (none_entered : ¬ EntersDomain s plan until T) (no_reason : (reason : Reason) → ¬ IsFirstTowards s plan until T reason) where
      no_first_rule : (step : ℕ) → IsLeast BreaksSome step → LeastOrNone (RuleBreaksAt s plan until T step) (length s.rules) → ⊥
      no_first_rule step least (inl (rule, lt, first)) =
          no_reason (Rule rule step) (broken_first s plan until T (record { rule = rule; step = step }) none_entered (record {
            breaks = first.here;
            no_step_before = λ earlier other less breaks. least.before earlier less (other, breaks);
            no_rule_before = first.before;
          }))
      no_first_rule step least (inr none) = none least.here.0 (rule_before step least.here.0 least.here.1).0 least.here.1

      no_first_step : BreaksSomewhere s plan until T → LeastOrNone BreaksSome until → ⊥
      no_first_step broken (inl (step, lt, least)) = least_or_none (RuleBreaksAt s plan until T step) (length s.rules) (no_first_rule step least)
      no_first_step broken (inr none) = none broken.step (rule_before broken.step broken.rule broken.breaks).1 (broken.rule, broken.breaks)

    no_first : FailsTowards s plan until T → ((reason : Reason) → ¬ IsFirstTowards s plan until T reason) → LeastOrNone IsEntered until → ⊥
    no_first fails no_reason (inl (step, lt, least)) = let found = entry_reason step lt least in no_reason found.0 found.1
    no_first (inl enters) no_reason (inr none) = none enters.step enters.planned (enters.from_now, enters.enters)
    no_first (inr breaks) no_reason (inr none) =
        least_or_none BreaksSome until (no_first_step (λ enters. none enters.step enters.planned (enters.from_now, enters.enters)) no_reason (broken_somewhere breaks))

    some_first : FailsTowards s plan until T → ¬ ((reason : Reason) → ¬ IsFirstTowards s plan until T reason)
    some_first fails no_reason = least_or_none IsEntered until (no_first fails no_reason)

  -- ---- the first good entry of a prefix that fails

  -- the entry of the prefix of so many legs that has a number
  record IsFound (legs n : ℕ) (entry : WhyEntry) : Type 0 where
    pub first : IsFirstGood s entry
    pub prefix : entry.prefix ≡ take legs (numbered s (first_extension s legs n))
    pub is : IsEntry s entry

  module _ (legs n : ℕ) (some : 1 ≤ legs) (le : legs ≤ s.lattice.legs) where
    plan : List ℕ
    plan = numbered s (first_extension s legs n)

    long : length plan ≡ s.lattice.legs
    unfolding plan
    long = length-plan_of (choices_of s.lattice) s.lattice.legs (first_extension s legs n)

    whole : IsPlan (choices_of s.lattice) s.lattice.legs plan
    unfolding plan
    whole = let choice = sound.some_choice in record { count = long; below = below_plan_of (choices_of s.lattice) s.lattice.legs (first_extension s legs n) (omega arith) }

    begins : take legs plan ≡ plan_of (choices_of s.lattice) legs n
    unfolding plan
    begins = begins_so s sound.some_choice legs n le

    entry_of : Target → Reason → WhyEntry
    entry_of T reason = record { prefix = take legs plan; target = T.mmsi; reason = reason }

    is_entry : (T : Target) (reason : Reason) → IsFirstTowards s plan (reached s legs) T reason → IsEntry s (entry_of T reason)
    unfolding entry_of
    is_entry T reason h =
        let choice = sound.some_choice in
        let lasts : length (take legs plan) ≡ legs = ap (λ (p : List ℕ). length p) begins ∙ length-plan_of (choices_of s.lattice) legs n in
        record {
          some = omega arith;
          few = omega arith;
          below = rw begins (below_plan_of (choices_of s.lattice) legs n (omega arith));
          known = h.known;
        }

    module _ (no_entry : (entry : WhyEntry) → ¬ IsFound legs n entry) where
      none_towards : LeastOrNone (λ k. IsSomeAnd (slice_get s.targets k) (FailsTowards s plan (reached s legs))) (length s.targets) → FailsBy s (reached s legs) plan → ⊥
      unfolding plan entry_of
      none_towards (inr none) fails = none fails.0 (there (FailsTowards s plan (reached s legs)) s.targets fails.0 fails.1).0 fails.1
      none_towards (inl (k, lt, least)) fails =
          let T = get_or s.targets k (element s.targets k lt) in
          let is : T ≡ get_or s.targets k T = get_or_default s.targets k (element s.targets k lt) T lt in
          let towards : FailsTowards s plan (reached s legs) T = (there (FailsTowards s plan (reached s legs)) s.targets k least.here).1 (element s.targets k lt) in
          let target : Contains s.targets T = Contains-get_or s.targets k (element s.targets k lt) lt in
          let all = long in
          some_first plan whole (reached s legs) T target towards (λ reason first.
          no_entry (entry_of T reason) (record {
            first = first_good_at s sound.some_leg plan (take legs plan) legs (reached s legs) refl (omega arith) refl k T reason lt is sound.ascending
                (λ i d less fails. least.before i less (here (FailsTowards s plan (reached s legs)) s.targets i d (omega arith) fails)) first;
            prefix = refl;
            is = is_entry T reason first;
          }))

    some_found : FailsBy s (reached s legs) plan → ¬ ((entry : WhyEntry) → ¬ IsFound legs n entry)
    some_found fails no_entry =
        least_or_none (λ k. IsSomeAnd (slice_get s.targets k) (FailsTowards s plan (reached s legs))) (length s.targets) (λ either. none_towards no_entry either fails)

  -- ---- the walk

  abbrev IsListedTo : ℕ → Type 0
  IsListedTo end = ¬ ((entries : List WhyEntry) → ¬ IsWalkedTo s entries end)

  module _ (fail : AllFail s) where
    -- the entries of the plans that extend a prefix which does not fail, behind those before them
    abbrev Extends : ℕ → ℕ → Type 0
    Extends legs n = (entries : List WhyEntry) → IsWalkedTo s entries (first_extension s legs n) → NoneIsShorter s legs (numbered s (first_extension s legs n))
        → (1 ≤ legs → ¬ PrefixFails s (take legs (numbered s (first_extension s legs n)))) → IsListedTo (first_extension s legs (n + 1))

    module _ (legs n : ℕ) (less : legs < s.lattice.legs) (small : n < choices_of s.lattice ^ legs)
        (longer : (m : ℕ) → m < choices_of s.lattice ^ (legs + 1) → Extends (legs + 1) m)
        (above : NoneIsShorter s legs (numbered s (first_extension s legs n))) (passes : 1 ≤ legs → ¬ PrefixFails s (take legs (numbered s (first_extension s legs n)))) where
      -- the prefix of one leg more
      of_choice : (choice : ℕ) → choice < choices_of s.lattice → (entries : List WhyEntry) → IsWalkedTo s entries (first_extension s (legs + 1) (n * choices_of s.lattice + choice))
          → IsListedTo (first_extension s (legs + 1) (n * choices_of s.lattice + choice + 1))
      unfolding plan
      of_choice choice lt entries walked none =
          let c = choices_of s.lattice in
          let m = n * c + choice in
          let known : m < c ^ (legs + 1) = longer_below c n legs choice lt small in
          let shorter = none_longer s reasons sound.some_choice legs n choice less lt above passes in
          holds_or_not (FailsBy s (reached s (legs + 1)) (numbered s (first_extension s (legs + 1) m))) (λ either. elim either [
            | inl fails ↦ some_found (legs + 1) m (omega arith) (omega arith) fails (λ entry found.
                none (entries ++ entry ∷ [])
                (listed_next s sound.some_choice (legs + 1) m (omega arith) known entries (entries ++ entry ∷ []) entry walked refl found.prefix found.is found.first shorter))
            | inr not ↦ longer m known entries walked shorter (λ _. passes_longer s sound.some_choice sound.some_leg (legs + 1) m (omega arith) not) none
          ])

      -- the prefixes of one leg more with the first choices
      of_choices : (choices : ℕ) → choices ≤ choices_of s.lattice → (entries : List WhyEntry) → IsWalkedTo s entries (first_extension s legs n)
          → IsListedTo (first_extension s (legs + 1) (n * choices_of s.lattice + choices))
      of_choices zero within entries walked none = none entries (subst (IsWalkedTo s entries) (blocks_begin (choices_of s.lattice) n s.lattice.legs legs less) walked)
      of_choices (suc choice) within entries walked none =
          let next : n * choices_of s.lattice + choice + 1 ≡ n * choices_of s.lattice + suc choice = omega arith in
          of_choices choice (omega arith) entries walked (λ so_far walked_so_far.
          of_choice choice (omega arith) so_far walked_so_far (λ more walked_more.
          none more (subst (λ (m : ℕ). IsWalkedTo s more (first_extension s (legs + 1) m)) next walked_more)))

      all_choices : (entries : List WhyEntry) → IsWalkedTo s entries (first_extension s legs n) → IsListedTo (first_extension s legs (n + 1))
      all_choices entries walked none = of_choices (choices_of s.lattice) (omega arith) entries walked (λ more walked_more.
          none more (subst (IsWalkedTo s more) (blocks_end (choices_of s.lattice) n s.lattice.legs legs less) walked_more))

    no_leg_left : (legs n : ℕ) → legs ≡ s.lattice.legs → n < choices_of s.lattice ^ legs → (1 ≤ legs → ¬ PrefixFails s (take legs (numbered s (first_extension s legs n)))) → ⊥
    no_leg_left legs n is small passes =
        let some = sound.some_leg in
        let known = first_plan_numbered (choices_of s.lattice) s.lattice.legs (s.lattice.legs - legs) legs n sound.some_choice (omega arith) small in
        let all = whole_passes s (first_extension s legs n) known
        (subst (λ (k : ℕ). ¬ PrefixFails s (take k (numbered s (first_extension s legs n)))) is (passes (omega arith))) in
        all.passes (fail all.number all.known)

    walk : (left legs n : ℕ) → legs + left ≡ s.lattice.legs → n < choices_of s.lattice ^ legs → Extends legs n
    walk zero legs n is small entries walked above passes = λ none. no_leg_left legs n (omega arith) small passes
    walk (suc left) legs n is small entries walked above passes =
        all_choices legs n (omega arith) small (λ m known. walk left (legs + 1) m (omega arith) known) above passes entries walked

    pub some_canonical_list : ¬ ((entries : List WhyEntry) → ¬ IsCanonical s entries)
    some_canonical_list none =
        let start : 0 * choices_of s.lattice ^ (s.lattice.legs - 0) ≡ 0 = omega arith in
        let end : first_extension s 0 1 ≡ plans_of s.lattice =
        (let left : s.lattice.legs - 0 ≡ s.lattice.legs = omega arith in
        let one : 1 * choices_of s.lattice ^ s.lattice.legs ≡ plans_of s.lattice = omega arith in ap (λ (k : ℕ). 1 * choices_of s.lattice ^ k) left ∙ one) in
        walk s.lattice.legs 0 0 (omega arith) (omega (arith, pow-zero (choices_of s.lattice))) [] (record { each = λ k lt. absurd (omega arith); ends = sym start })
        (record { none = λ entry some short same. absurd (omega arith) }) (λ some. absurd (omega arith)) (λ entries walked.
        none entries (walked_canonical s sound.some_choice entries (subst (IsWalkedTo s entries) end walked)))
