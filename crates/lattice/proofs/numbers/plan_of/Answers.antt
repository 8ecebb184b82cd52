use Rattle.std.proofs.Common.{◌≡◌, ℕ, ◌*◌, ◌+◌, ◌-◌, ◌/◌, ◌%◌, ◌<◌, ◌^◌, List, [], ◌∷◌, ◌++◌, sym, arith, refl}
use Rattle.std.proofs.Math.Nat.{one-le-pow}
use Rattle.lattice.specs.PlanNumbers.{plan_of}
use Rattle.lattice.proofs.Digits.{plan_none, plan_step, next_weight, lower_weight, length-plan_of, below_plan_of}
use Rattle.lattice.proofs.numbers.plan_of.Goals as goal

lower : (b legs leg weight : ℕ) → 0 < b → leg < legs → weight ≡ b ^ (legs - leg) → weight / b ≡ b ^ (legs - (leg + 1))
lower b legs leg weight p lt is = rw is (lower_weight b legs leg p lt)

longer : (b legs leg n weight lower : ℕ) (plan : List ℕ) → 0 < b → leg < legs → weight ≡ b ^ (legs - leg) → lower ≡ b ^ (legs - (leg + 1)) → plan ≡ plan_of b leg (n / weight)
    → plan ++ n / lower % b ∷ [] ≡ plan_of b (leg + 1) (n / lower)
longer b legs leg n weight lower plan p lt is next so_far =
    let e : weight ≡ lower * b = rw (is, next) (next_weight b legs leg p lt) in
    rw (so_far, e) (sym (plan_step b leg n lower))

pub loop-leg-init : goal.loop-leg-init
loop-leg-init c = record {
  weight = let e : c.args.legs - 0 ≡ c.args.legs = omega arith in rw e c.requires.plans;
  plan = rw (c.new-plan.ensures, plan_none) refl;
}

pub nonzero_div-number : goal.nonzero_div-number
nonzero_div-number c =
    let e = lower c.args.choices c.args.legs c.loop-leg._leg _ c.requires.some_choice c.loop-leg-test.true c.loop-leg.invariant.weight in
    rw e (one-le-pow (c.args.legs - (c.loop-leg._leg + 1)) c.args.choices c.requires.some_choice)

pub push-requires : goal.push-requires
push-requires c =
    let few = c.requires.few_legs in
    let lt = c.loop-leg-test.true in
    rw (c.loop-leg.invariant.plan, length-plan_of) (omega arith)

pub loop-leg-preserved : goal.loop-leg-preserved
loop-leg-preserved c =
    let e = lower c.args.choices c.args.legs c.loop-leg._leg _ c.requires.some_choice c.loop-leg-test.true c.loop-leg.invariant.weight in
    record {
      weight = e;
      plan = rw c.push.ensures (longer c.args.choices c.args.legs c.loop-leg._leg c.args.number c.loop-leg.weight _ c.loop-leg.plan c.requires.some_choice c.loop-leg-test.true c.loop-leg.invariant.weight e c.loop-leg.invariant.plan);
    }

pub returns-clause-plan : goal.returns-clause-plan
returns-clause-plan c =
    let over : c.loop-leg._leg ≡ c.args.legs = omega arith in
    rw (c.loop-leg.invariant.plan, over) (record { count = length-plan_of _ _ _; below = below_plan_of _ _ _ c.requires.some_choice })
