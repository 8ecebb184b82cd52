use Rattle.std.proofs.Common.{◌≡◌, ◌*◌, ◌^◌, ◌<◌, ◌≤◌, ℕ, take, sym, subst, ap, ◌∙◌, arith, rules}
use Rattle.lattice.specs.Grids.{choices_of}
use Rattle.lattice.specs.PlanNumbers.{plan_of}
use Rattle.plan_situations.proofs.Blocks.{first_plan_begins, first_plan_numbered, small_place}
use Rattle.planner.proofs.legs.first_plan.Goals as goal

pub pow-place-requires : goal.pow-place-requires
pow-place-requires c =
    let left = c.from.ensures in
    let legs = c.legs.ensures.value in
    let small = small_place c.choices.result c.args.situation.now.lattice.legs c.from.result 1073741824 c.choices.ensures.some (omega arith) c.choices.ensures.few_plans in
    omega arith

numbered : (c : goal.After-pow-place) → c.args.number * c.pow-place.result < choices_of c.args.situation.now.lattice ^ c.args.situation.now.lattice.legs
numbered c =
    let left = c.from.ensures in
    let legs = c.legs.ensures.value in
    let within = c.requires.legs in
    let value = c.choices.ensures.value in
    let some = c.choices.ensures.some in
    let place : c.pow-place.result ≡ choices_of c.args.situation.now.lattice ^ c.from.result = c.pow-place.ensures ∙ ap (λ (n : ℕ). n ^ c.from.result) value in
    subst (λ (p : ℕ). c.args.number * p < choices_of c.args.situation.now.lattice ^ c.args.situation.now.lattice.legs) (sym place)
    (first_plan_numbered (choices_of c.args.situation.now.lattice) c.args.situation.now.lattice.legs c.from.result c.args.legs c.args.number (omega arith) (omega arith) c.requires.number)

pub overflow_mul-number : goal.overflow_mul-number
overflow_mul-number c =
    let few = c.choices.ensures.few_plans in
    let value = c.choices.ensures.value in
    let lt = numbered c in
    let few' : choices_of c.args.situation.now.lattice ^ c.args.situation.now.lattice.legs ≤ 1073741824 = subst (λ (n : ℕ). n ^ c.args.situation.now.lattice.legs ≤ 1073741824) value few in
    let small : c.args.number * c.pow-place.result < 2 ^ 32 = omega arith in
    search rules

pub plan-requires : goal.plan-requires
plan-requires c = numbered c

pub returns-clause-begins : goal.returns-clause-begins
returns-clause-begins c =
    let left = c.from.ensures in
    let legs = c.legs.ensures.value in
    let within = c.requires.legs in
    let value = c.choices.ensures.value in
    let some = c.choices.ensures.some in
    let place : c.pow-place.result ≡ choices_of c.args.situation.now.lattice ^ c.from.result = c.pow-place.ensures ∙ ap (λ (n : ℕ). n ^ c.from.result) value in
    ap (take c.args.legs) (c.plan.ensures.value ∙ ap (λ (p : ℕ). plan_of (choices_of c.args.situation.now.lattice) c.args.situation.now.lattice.legs (c.args.number * p)) place)
    ∙ first_plan_begins (choices_of c.args.situation.now.lattice) c.args.situation.now.lattice.legs c.from.result c.args.legs c.args.number (omega arith) (omega arith)
