use Rattle.std.proofs.Common.{◌≡◌, ℕ, ◌+◌, ◌*◌, ◌^◌, ◌<◌, ◌≤◌, List, length, sym, ap, subst, ◌∙◌, arith, rules}
use Rattle.lattice.specs.Grids.{choices_of}
use Rattle.lattice.specs.PlanNumbers.{plan_of}
use Rattle.planner.specs.Inner.Levels.{ArePlaces}
use Rattle.plan_situations.specs.Paths.{HasReached}
use Rattle.planner.specs.Inner.Walk.{AllFailFrom}
use Rattle.plan_situations.specs.Prefixes.{PrefixFails}
use Rattle.planner.specs.declared.level.Level.{Level}
use Rattle.plan_situations.proofs.Blocks.{small_place}
use Rattle.planner.proofs.Blocks.{all_tried, block_fails, found, none_before, none_fail, not_found}
use Rattle.planner.proofs.Walking.{first_alone, join_places, next_number, number_before, split_places}
use Rattle.planner.proofs.explore.+explore.Goals as goal
use Rattle.planner.proofs.explore.+explore.Goals.{in-Passes+in_default-explore, in-Fails}

pub returns-in_default-clause-answer : goal.returns-in_default-clause-answer
returns-in_default-clause-answer t c =
    let s = c.args.situation.now in
    let count = c.requires.places.count in
    first_alone s c.requires.basis.is_situation.some_leg c.args.leg c.args.number (length c.args.below.now) c.in_default.ensures.cases count (c.requires.passes c.in_default.ensures.cases)

pub loop-choice-init : goal.loop-choice-init
loop-choice-init t c =
    let s = c.args.situation.now in
    let parts = split_places c.args.situation.now c.args.basis.now c.args.leg c.args.below.now c.in-Some.to.now c.in-Some.rest.now c.in-Some.ensures.cases.0 c.requires.places in
    let long = sym c.in-Some.ensures.cases.1 in
    record {
      place = parts.0;
      places = parts.1;
      left = long;
      fail = none_fail s c.requires.basis.is_situation.some_leg _ _ (none_before (choices_of s.lattice) c.args.number (length c.in-Some.rest.now) (length c.args.below.now) long);
    }

extended_small : (t : ℕ) (c : goal.In-loop-choice t) → c.args.number * c.choices-choices.result + c.loop-choice.choice < 2 ^ 30
extended_small t c =
    let grid = c.args.situation.now.lattice in
    let C = choices_of grid in
    let lt : c.loop-choice.choice < C = subst (λ (n : ℕ). c.loop-choice.choice < n) c.choices-choices.ensures.value c.loop-choice-test.true in
    let next = next_number C c.args.leg c.args.number c.loop-choice.choice c.requires.number lt in
    let few : C ^ grid.legs ≤ 1073741824 = subst (λ (n : ℕ). n ^ grid.legs ≤ 1073741824) c.choices-choices.ensures.value c.choices-choices.ensures.few_plans in
    let count = c.requires.places.count in
    let left = c.loop-choice.invariant.left in
    let inside : c.args.leg + 1 ≤ grid.legs = omega arith in
    let small = small_place C grid.legs (c.args.leg + 1) 1073741824 c.requires.basis.is_situation.some_choice inside few in
    let is : c.args.number * c.choices-choices.result + c.loop-choice.choice ≡ c.args.number * C + c.loop-choice.choice = ap (λ (n : ℕ). c.args.number * n + c.loop-choice.choice) c.choices-choices.ensures.value in
    omega arith

pub overflow_mul-extended : goal.overflow_mul-extended
overflow_mul-extended t c =
    let small = extended_small t c in
    let fits : c.args.number * c.choices-choices.result < 2 ^ 32 = omega arith in
    search rules

pub overflow_add-extended : goal.overflow_add-extended
overflow_add-extended t c =
    let small = extended_small t c in
    let fits : c.args.number * c.choices-choices.result + c.loop-choice.choice < 2 ^ 32 = omega arith in
    search rules

pub new-next-requires-clause-number : goal.new-next-requires-clause-number
new-next-requires-clause-number t c =
    let C = choices_of c.args.situation.now.lattice in
    let lt : c.loop-choice.choice < C = subst (λ (n : ℕ). c.loop-choice.choice < n) c.choices-choices.ensures.value c.loop-choice-test.true in
    subst (λ (n : ℕ). c.args.number * n + c.loop-choice.choice < C ^ (c.args.leg + 1)) (sym c.choices-choices.ensures.value) (next_number C c.args.leg c.args.number c.loop-choice.choice c.requires.number lt)

pub new-next-requires-clause-own : goal.new-next-requires-clause-own
new-next-requires-clause-own t c =
    let s = c.args.situation.now in
    let C = choices_of s.lattice in
    let lt : c.loop-choice.choice < C = subst (λ (n : ℕ). c.loop-choice.choice < n) c.choices-choices.ensures.value c.loop-choice-test.true in
    let before = number_before C c.args.number c.loop-choice.choice (c.args.number * c.choices-choices.result + c.loop-choice.choice) lt (ap (λ (n : ℕ). c.args.number * n + c.loop-choice.choice) c.choices-choices.ensures.value) in
    subst (λ (n : ℕ). HasReached s (plan_of C c.args.leg n) (c.args.leg * s.lattice.leg_ticks) c.own_at_leg-own.result) (sym before) c.own_at_leg-own.ensures

pub extend-requires-clause-places : goal.extend-requires-clause-places
extend-requires-clause-places t c = rw c.new-next.ensures.index c.loop-choice.invariant.place

pub extend-requires-clause-from : goal.extend-requires-clause-from
extend-requires-clause-from t c =
    let s = c.args.situation.now in
    let C = choices_of s.lattice in
    let lt : c.loop-choice.choice < C = subst (λ (n : ℕ). c.loop-choice.choice < n) c.choices-choices.ensures.value c.loop-choice-test.true in
    let before = number_before C c.args.number c.loop-choice.choice (c.args.number * c.choices-choices.result + c.loop-choice.choice) lt (ap (λ (n : ℕ). c.args.number * n + c.loop-choice.choice) c.choices-choices.ensures.value) in
    rw (c.new-next.ensures.index, c.new-next.ensures.number, before) c.requires.from

pub explore-requires : goal.explore-requires
explore-requires t c =
    let s = c.args.situation.now in
    let C = choices_of s.lattice in
    let lt : c.loop-choice.choice < C = subst (λ (n : ℕ). c.loop-choice.choice < n) c.choices-choices.ensures.value c.loop-choice-test.true in
    let ext = c.args.number * c.choices-choices.result + c.loop-choice.choice in
    let is : ext ≡ c.args.number * C + c.loop-choice.choice = ap (λ (n : ℕ). c.args.number * n + c.loop-choice.choice) c.choices-choices.ensures.value in
    let number : ext < C ^ (c.args.leg + 1) = subst (λ (n : ℕ). n < C ^ (c.args.leg + 1)) (sym is) (next_number C c.args.leg c.args.number c.loop-choice.choice c.requires.number lt) in
    let after = rw (c.new-next.ensures.index, c.new-next.ensures.number) at (c.extend.ensures.after c.in-Passes.is) in
    let passes = rw (c.new-next.ensures.index, c.new-next.ensures.number) at (c.extend.ensures.passes c.in-Passes.is) in (
      search rules,
      (c.requires.basis, (c.loop-choice.invariant.places, (number, (after, λ none. let count = c.loop-choice.invariant.places.count in passes (omega arith))))),
    )

pub returns-in-Some-explore-clause-places : goal.returns-in-Some-explore-clause-places
returns-in-Some-explore-clause-places t c = join_places c.args.situation.now c.args.basis.now c.args.leg c.extend.new.self c.explore.new.below (rw c.new-next.ensures.index at c.extend.ensures.places) c.in-Some-explore.ensures.places

pub returns-in-Some-explore-clause-answer : goal.returns-in-Some-explore-clause-answer
returns-in-Some-explore-clause-answer t c =
    let s = c.args.situation.now in
    let C = choices_of s.lattice in
    let lt : c.loop-choice.choice < C = subst (λ (n : ℕ). c.loop-choice.choice < n) c.choices-choices.ensures.value c.loop-choice-test.true in
    found s c.requires.basis.is_situation.some_leg c.args.number c.loop-choice.choice (length c.loop-choice.rest) (length c.args.below.now) (c.args.number * c.choices-choices.result + c.loop-choice.choice)
    c.loop-choice.invariant.left (ap (λ (n : ℕ). c.args.number * n + c.loop-choice.choice) c.choices-choices.ensures.value) c.loop-choice.invariant.fail c.in-Some-explore.found lt c.in-Some-explore.ensures.answer

pub loop-choice-preserved : goal.loop-choice-preserved
loop-choice-preserved t c =
    let s = c.args.situation.now in
    let C = choices_of s.lattice in
    let some = c.requires.basis.is_situation.some_leg in
    let lt : c.loop-choice.choice < C = subst (λ (n : ℕ). c.loop-choice.choice < n) c.choices-choices.ensures.value c.loop-choice-test.true in
    let ext = c.args.number * c.choices-choices.result + c.loop-choice.choice in
    let is : ext ≡ c.args.number * C + c.loop-choice.choice = ap (λ (n : ℕ). c.args.number * n + c.loop-choice.choice) c.choices-choices.ensures.value in
    let left = length c.loop-choice.rest in
    let long = c.loop-choice.invariant.left in
    let so_far = c.loop-choice.invariant.fail in
    let whole = c.requires.places.count in
    elim c.match-extend.branch [
      | in-Passes+in_default-explore w ↦ record {
        place = rw c.new-next.ensures.index at c.extend.ensures.places;
        places = subst (ArePlaces c.args.situation.now c.args.basis.now (c.args.leg + 1)) (sym w.rest-is) w.in_default-explore.ensures.places;
        left = let after = w.in_default-explore.ensures.places.count in let before = c.loop-choice.invariant.places.count in omega (arith, ap length w.rest-is);
        fail = let after = w.in_default-explore.ensures.places.count in
            let before = c.loop-choice.invariant.places.count in
            let as_long : left ≡ length c.match-extend.rest = omega (arith, ap length w.rest-is) in
            subst (λ (n : ℕ). AllFailFrom s (c.args.number * C ^ length c.args.below.now) ((c.args.number * C + (c.loop-choice.choice + 1)) * C ^ n)) as_long
            (not_found s some c.args.number c.loop-choice.choice left (length c.args.below.now) ext long is so_far w.in_default-explore.ensures.answer);
      }
      | in-Fails w ↦ record {
        place = rw c.new-next.ensures.index at c.extend.ensures.places;
        places = subst (ArePlaces c.args.situation.now c.args.basis.now (c.args.leg + 1)) (sym w.rest-is) c.loop-choice.invariant.places;
        left = omega (arith, ap length w.rest-is);
        fail = subst (λ (xs : List Level). AllFailFrom s (c.args.number * C ^ length c.args.below.now) ((c.args.number * C + (c.loop-choice.choice + 1)) * C ^ length xs)) (sym w.rest-is)
            (not_found s some c.args.number c.loop-choice.choice left (length c.args.below.now) ext long is so_far
            (block_fails s some (c.args.leg + 1) left ext (omega arith) (omega arith) (rw (c.new-next.ensures.index, c.new-next.ensures.number) at (c.extend.ensures.fails w.in-Fails.is))));
      }
    ]

pub returns-clause-answer : goal.returns-clause-answer
returns-clause-answer t c =
    let s = c.args.situation.now in
    let C = choices_of s.lattice in
    let le : c.loop-choice.choice ≡ c.choices-choices.result = let a = c.loop-choice-test.false in let b = c.loop-choice.auto.choice-end in omega arith in
    let over : c.loop-choice.choice ≡ C = le ∙ c.choices-choices.ensures.value in
    all_tried s c.requires.basis.is_situation.some_leg c.args.number (length c.loop-choice.rest) (length c.args.below.now) c.loop-choice.invariant.left
    (subst (λ (n : ℕ). AllFailFrom s (c.args.number * C ^ length c.args.below.now) ((c.args.number * C + n) * C ^ length c.loop-choice.rest)) over c.loop-choice.invariant.fail)

pub returns-clause-places : goal.returns-clause-places
returns-clause-places t c = join_places c.args.situation.now c.args.basis.now c.args.leg c.loop-choice.to c.loop-choice.rest c.loop-choice.invariant.place c.loop-choice.invariant.places

pub returns-in-FailedBefore-clause-places : goal.returns-in-FailedBefore-clause-places
returns-in-FailedBefore-clause-places t c = join_places c.args.situation.now c.args.basis.now c.args.leg c.extend.new.self c.loop-choice.rest (rw c.new-next.ensures.index at c.extend.ensures.places) c.loop-choice.invariant.places

pub returns-in-FailedBefore-clause-answer : goal.returns-in-FailedBefore-clause-answer
returns-in-FailedBefore-clause-answer t c =
    let s = c.args.situation.now in
    let C = choices_of s.lattice in
    let count = c.requires.places.count in
    let lt : c.loop-choice.choice < C = subst (λ (n : ℕ). c.loop-choice.choice < n) c.choices-choices.ensures.value c.loop-choice-test.true in
    let before = number_before C c.args.number c.loop-choice.choice (c.args.number * c.choices-choices.result + c.loop-choice.choice) lt (ap (λ (n : ℕ). c.args.number * n + c.loop-choice.choice) c.choices-choices.ensures.value) in
    block_fails s c.requires.basis.is_situation.some_leg c.args.leg (length c.args.below.now) c.args.number (omega arith) (omega arith)
    (subst (λ (n : ℕ). PrefixFails s (plan_of C c.args.leg n)) before (rw (c.new-next.ensures.index, c.new-next.ensures.number) at (c.extend.ensures.failed_before c.in-FailedBefore.is)))
