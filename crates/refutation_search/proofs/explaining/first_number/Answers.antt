use Rattle.std.proofs.Common.{ℕ, ◌≡◌, ◌∙◌, ◌-◌, ◌^◌, ◌≤◌, arith, ap, subst}
use Rattle.lattice.specs.Grids.{choices_of}
use Rattle.plan_situations.proofs.ForCallers.{first_plan_numbered, small_place}
use Rattle.refutation_search.proofs.explaining.first_number.Goals as goal

pub pow-requires : goal.pow-requires
pow-requires c =
    let left : c.from.result ≡ c.args.situation.now.lattice.legs - c.args.legs = omega arith in
    let e = ap (λ (n : ℕ). c.choices.result ^ n) left in
    let small = small_place c.choices.result c.args.situation.now.lattice.legs (c.args.situation.now.lattice.legs - c.args.legs) 1073741824 c.choices.ensures.some (omega arith) c.choices.ensures.few_plans in
    omega (arith, e, small)

pub returns-clause-known : goal.returns-clause-known
returns-clause-known c =
    let s = c.args.situation.now in
    let left : c.from.result ≡ s.lattice.legs - c.args.legs = omega arith in
    let place : c.pow.result ≡ choices_of s.lattice ^ (s.lattice.legs - c.args.legs) =
    c.pow.ensures ∙ (ap (λ (n : ℕ). c.choices.result ^ n) left ∙ ap (λ (b : ℕ). b ^ (s.lattice.legs - c.args.legs)) c.choices.ensures.value) in
    let some : 1 ≤ choices_of s.lattice = subst (λ (b : ℕ). 1 ≤ b) c.choices.ensures.value c.choices.ensures.some in
    rw place (first_plan_numbered (choices_of s.lattice) s.lattice.legs (s.lattice.legs - c.args.legs) c.args.legs c.args.number some (omega arith) c.requires.number)

pub overflow_mul-result : goal.overflow_mul-result
overflow_mul-result c =
    let s = c.args.situation.now in
    let left : c.from.result ≡ s.lattice.legs - c.args.legs = omega arith in
    let place : c.pow.result ≡ choices_of s.lattice ^ (s.lattice.legs - c.args.legs) =
    c.pow.ensures ∙ (ap (λ (n : ℕ). c.choices.result ^ n) left ∙ ap (λ (b : ℕ). b ^ (s.lattice.legs - c.args.legs)) c.choices.ensures.value) in
    let some : 1 ≤ choices_of s.lattice = subst (λ (b : ℕ). 1 ≤ b) c.choices.ensures.value c.choices.ensures.some in
    let few : choices_of s.lattice ^ s.lattice.legs ≤ 1073741824 = subst (λ (b : ℕ). b ^ s.lattice.legs ≤ 1073741824) c.choices.ensures.value c.choices.ensures.few_plans in
    let known = first_plan_numbered (choices_of s.lattice) s.lattice.legs (s.lattice.legs - c.args.legs) c.args.legs c.args.number some (omega arith) c.requires.number in
    record { fits = rw place (omega (arith, few, known)) }
