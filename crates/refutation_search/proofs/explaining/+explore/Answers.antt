use Rattle.std.proofs.Common.{ℕ, take, length, ◌≡◌, ◌∙◌, ◌+◌, ◌*◌, ◌-◌, ◌^◌, ◌≤◌, ◌<◌, arith, rules, List, Some, None, refl, ap, sym, subst}
use Rattle.std.specs.Prelude.{IsNone, MatchOption, Option}
use Rattle.lattice.specs.Grids.{choices_of}
use Rattle.planner.proofs.ForCallers.{join_places, next_number, number_before, split_places}
use Rattle.planner.specs.Walks.{HavePlaces, IsFirstFailing, Keeps}
use Rattle.plan_situations.specs.FailingPlans.{FailsBy}
use Rattle.plan_situations.specs.LeastPlans.{numbered}
use Rattle.plan_situations.specs.Prefixes.{reached, PrefixFails}
use Rattle.plan_situations.specs.declared.situation.Situation.{Situation}
use Rattle.plan_situations.proofs.ForCallers.{first_plan_numbered, small_place}
use Rattle.refutation_search.specs.Inner.Walks.{first_extension, IsWalkedTo}
use Rattle.refutation_search.proofs.Walking.{begins_so, blocks_begin, blocks_end, none_longer, passes_longer, whole_passes}
use Rattle.refutation_search.proofs.explaining.+explore.Goals as goal
use Rattle.refutation_search.proofs.explaining.+explore.Goals.{in-Some-found+in_ok-list_first, in_default-found+in_ok-explore+else-not-branch}

pub returns-in_default-clause-passes : goal.returns-in_default-clause-passes
returns-in_default-clause-passes t c =
    let s = c.args.walked.now.situation.now in
    let count = c.requires.places.count in
    let none = c.in_default.ensures.cases in
    let whole : c.args.legs ≡ s.lattice.legs = omega arith in
    let some = c.requires.situation.some_leg in
    λ _. whole_passes s (first_extension s c.args.legs c.args.number)
    (first_plan_numbered (choices_of s.lattice) s.lattice.legs (s.lattice.legs - c.args.legs) c.args.legs c.args.number c.requires.situation.some_choice (omega arith) c.requires.number)
    (subst (λ (k : ℕ). ¬ PrefixFails s (take k (numbered s (first_extension s c.args.legs c.args.number)))) whole (c.requires.passes (omega arith)))

pub loop-choice-init : goal.loop-choice-init
loop-choice-init t c =
    let s = c.args.walked.now.situation.now in
    let basis = c.args.walked.now.basis.now in
    let parts = split_places s basis c.args.legs c.args.below.now c.in-Some.to.now c.in-Some.rest.now c.in-Some.ensures.cases.0 c.requires.places in
    let long = sym c.in-Some.ensures.cases.1 in
    let count = c.requires.places.count in
    record {
      place = parts.0;
      places = parts.1;
      left = long;
      walked = subst (IsWalkedTo s c.args.list.now.items) (blocks_begin (choices_of s.lattice) c.args.number s.lattice.legs c.args.legs (omega arith)) c.requires.so_far;
    }

-- the number of the prefix of one leg more
module _ (s : Situation) (legs number choice choices : ℕ) (is : choices ≡ choices_of s.lattice) (test : choice < choices) (known : number < choices_of s.lattice ^ legs) where
  less : choice < choices_of s.lattice
  less = subst (λ (n : ℕ). choice < n) is test

  same : number * choices + choice ≡ number * choices_of s.lattice + choice
  same = ap (λ (n : ℕ). number * n + choice) is

  longer : number * choices + choice < choices_of s.lattice ^ (legs + 1)
  longer = subst (λ (n : ℕ). n < choices_of s.lattice ^ (legs + 1)) (sym same) (next_number (choices_of s.lattice) legs number choice known less)

  small : 1 ≤ choices_of s.lattice → legs + 1 ≤ s.lattice.legs → choices ^ s.lattice.legs ≤ 1073741824 → number * choices + choice < 2 ^ 30
  small some inside few =
      let few_here : choices_of s.lattice ^ s.lattice.legs ≤ 1073741824 = subst (λ (n : ℕ). n ^ s.lattice.legs ≤ 1073741824) is few in
      let place = small_place (choices_of s.lattice) s.lattice.legs (legs + 1) 1073741824 some inside few_here in
      let below = longer in
      omega arith

  next : (number * choices + choice) + 1 ≡ number * choices_of s.lattice + (choice + 1)
  next = let e = same in omega arith

-- what was found of a plan
not_failing : (s : Situation) (legs : ℕ) (plan : List ℕ) (found : Option ℕ) → found ≡ None
    → MatchOption found (¬ FailsBy s (reached s legs) plan) (IsFirstFailing s plan (reached s legs)) → ¬ FailsBy s (reached s legs) plan
not_failing s legs plan found is h = rw is at h

first_target : (s : Situation) (legs : ℕ) (plan : List ℕ) (found : Option ℕ) (target : ℕ) → found ≡ Some target
    → MatchOption found (¬ FailsBy s (reached s legs) plan) (IsFirstFailing s plan (reached s legs)) → IsFirstFailing s plan (reached s legs) target
first_target s legs plan found target is h = rw is at h

pub overflow_mul-longer : goal.overflow_mul-longer
overflow_mul-longer t c =
    let count = c.loop-choice.invariant.places.count in
    let few = small c.args.walked.now.situation.now c.args.legs c.args.number c.loop-choice.choice c.choices-choices.result c.choices-choices.ensures.value c.loop-choice-test.true c.requires.number
    c.requires.situation.some_choice (omega arith) c.choices-choices.ensures.few_plans in
    let fits : c.args.number * c.choices-choices.result < 2 ^ 32 = omega arith in
    search rules

pub overflow_add-longer : goal.overflow_add-longer
overflow_add-longer t c =
    let count = c.loop-choice.invariant.places.count in
    let few = small c.args.walked.now.situation.now c.args.legs c.args.number c.loop-choice.choice c.choices-choices.result c.choices-choices.ensures.value c.loop-choice-test.true c.requires.number
    c.requires.situation.some_choice (omega arith) c.choices-choices.ensures.few_plans in
    let fits : c.args.number * c.choices-choices.result + c.loop-choice.choice < 2 ^ 32 = omega arith in
    search rules

pub first_failing-found-requires-clause-number : goal.first_failing-found-requires-clause-number
first_failing-found-requires-clause-number t c =
    longer c.args.walked.now.situation.now c.args.legs c.args.number c.loop-choice.choice c.choices-choices.result c.choices-choices.ensures.value c.loop-choice-test.true c.requires.number

pub first_failing-found-requires-clause-place : goal.first_failing-found-requires-clause-place
first_failing-found-requires-clause-place t c = c.loop-choice.invariant.place

pub first_failing-found-requires-clause-from : goal.first_failing-found-requires-clause-from
first_failing-found-requires-clause-from t c =
    let s = c.args.walked.now.situation.now in
    let before = number_before (choices_of s.lattice) c.args.number c.loop-choice.choice (c.args.number * c.choices-choices.result + c.loop-choice.choice)
    (less s c.args.legs c.args.number c.loop-choice.choice c.choices-choices.result c.choices-choices.ensures.value c.loop-choice-test.true c.requires.number)
    (ap (λ (n : ℕ). c.args.number * n + c.loop-choice.choice) c.choices-choices.ensures.value) in
    subst (λ (n : ℕ). Keeps s c.args.walked.now.basis.now c.args.legs n c.args.from.now) (sym before) c.requires.from

pub list_first-requires-clause-number : goal.list_first-requires-clause-number
list_first-requires-clause-number t c =
    longer c.args.walked.now.situation.now c.args.legs c.args.number c.loop-choice.choice c.choices-choices.result c.choices-choices.ensures.value c.loop-choice-test.true c.requires.number

pub list_first-requires-clause-target : goal.list_first-requires-clause-target
list_first-requires-clause-target t c =
    let s = c.args.walked.now.situation.now in
    let count = c.loop-choice.invariant.places.count in
    let n = c.args.number * c.choices-choices.result + c.loop-choice.choice in
    first_target s (c.args.legs + 1) (numbered s (first_extension s (c.args.legs + 1) n)) c.first_failing-found.result c.in-Some-found.target c.in-Some-found.is
    (c.first_failing-found.ensures.first (numbered s (first_extension s (c.args.legs + 1) n)) (begins_so s c.requires.situation.some_choice (c.args.legs + 1) n (omega arith)))

pub list_first-requires-clause-so_far : goal.list_first-requires-clause-so_far
list_first-requires-clause-so_far t c = rw c.choices-choices.ensures.value c.loop-choice.invariant.walked

pub list_first-requires-clause-above : goal.list_first-requires-clause-above
list_first-requires-clause-above t c =
    let s = c.args.walked.now.situation.now in
    let count = c.loop-choice.invariant.places.count in
    let above = none_longer s c.failing_has_a_reason.ensures c.requires.situation.some_choice c.args.legs c.args.number c.loop-choice.choice (omega arith)
    (less s c.args.legs c.args.number c.loop-choice.choice c.choices-choices.result c.choices-choices.ensures.value c.loop-choice-test.true c.requires.number) c.requires.above c.requires.passes in
    rw c.choices-choices.ensures.value above

pub explore-requires : goal.explore-requires
explore-requires t c =
    let s = c.args.walked.now.situation.now in
    let b = c.choices-choices.ensures.value in
    let count = c.loop-choice.invariant.places.count in
    let n = c.args.number * c.choices-choices.result + c.loop-choice.choice in
    let known = longer s c.args.legs c.args.number c.loop-choice.choice c.choices-choices.result b c.loop-choice-test.true c.requires.number in
    let above = none_longer s c.failing_has_a_reason.ensures c.requires.situation.some_choice c.args.legs c.args.number c.loop-choice.choice (omega arith)
    (less s c.args.legs c.args.number c.loop-choice.choice c.choices-choices.result b c.loop-choice-test.true c.requires.number) c.requires.above c.requires.passes in
    let none : IsNone c.first_failing-found.result = rw c.in_default-found.is refl in
    let passes = passes_longer s c.requires.situation.some_choice c.requires.situation.some_leg (c.args.legs + 1) n (omega arith)
    (not_failing s (c.args.legs + 1) (numbered s (first_extension s (c.args.legs + 1) n)) c.first_failing-found.result c.in_default-found.is
    (c.first_failing-found.ensures.first (numbered s (first_extension s (c.args.legs + 1) n)) (begins_so s c.requires.situation.some_choice (c.args.legs + 1) n (omega arith)))) in (
      search rules,
      (c.requires.situation, (c.requires.basis, (c.loop-choice.invariant.places, (known, (c.first_failing-found.ensures.keeps none, (rw b c.loop-choice.invariant.walked, (rw b above, λ _. passes))))))),
    )

pub loop-choice-preserved : goal.loop-choice-preserved
loop-choice-preserved t c =
    let s = c.args.walked.now.situation.now in
    let basis = c.args.walked.now.basis.now in
    let long = c.loop-choice.invariant.left in
    let one_more = next s c.args.legs c.args.number c.loop-choice.choice c.choices-choices.result c.choices-choices.ensures.value c.loop-choice-test.true c.requires.number in
    elim c.match-found.branch [
      | in-Some-found+in_ok-list_first w ↦ record {
        place = c.first_failing-found.ensures.place;
        places = subst (HavePlaces s basis (c.args.legs + 1)) (sym w.rest-is) c.loop-choice.invariant.places;
        left = omega (arith, ap length w.rest-is);
        walked = rw w.list-is (subst (λ (k : ℕ). IsWalkedTo s w.list_first.new.list.items (first_extension s (c.args.legs + 1) k)) one_more w.in_ok-list_first.ensures);
      }
      | in_default-found+in_ok-explore+else-not-branch w ↦ (let all = w.if-not-branch.false in
          let places = w.in_ok-explore.ensures.places all in
          record {
            place = c.first_failing-found.ensures.place;
            places = subst (HavePlaces s basis (c.args.legs + 1)) (sym w.rest-is) places;
            left = let after = places.count in let before = c.loop-choice.invariant.places.count in omega (arith, ap length w.rest-is);
            walked = rw w.list-is (subst (λ (k : ℕ). IsWalkedTo s w.explore.new.list.items (first_extension s (c.args.legs + 1) k)) one_more (w.in_ok-explore.ensures.list all));
          })
    ]

pub returns-clause-places : goal.returns-clause-places
returns-clause-places t c = λ _. join_places c.args.walked.now.situation.now c.args.walked.now.basis.now c.args.legs c.loop-choice.to c.loop-choice.rest c.loop-choice.invariant.place c.loop-choice.invariant.places

pub returns-clause-list : goal.returns-clause-list
returns-clause-list t c =
    let s = c.args.walked.now.situation.now in
    let count = c.loop-choice.invariant.places.count in
    let before : c.args.legs < s.lattice.legs = omega arith in
    let le : c.loop-choice.choice ≡ c.choices-choices.result = let a = c.loop-choice-test.false in let b = c.loop-choice.auto.choice-end in omega arith in
    let all : c.loop-choice.choice ≡ choices_of s.lattice = le ∙ c.choices-choices.ensures.value in
    let end : first_extension s (c.args.legs + 1) (c.args.number * choices_of s.lattice + c.loop-choice.choice) ≡ first_extension s c.args.legs (c.args.number + 1) =
    ap (λ (n : ℕ). first_extension s (c.args.legs + 1) (c.args.number * choices_of s.lattice + n)) all ∙ blocks_end (choices_of s.lattice) c.args.number s.lattice.legs c.args.legs before in
    λ _. subst (IsWalkedTo s c.loop-choice.list.items) end c.loop-choice.invariant.walked
