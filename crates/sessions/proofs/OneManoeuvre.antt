-- There is one manoeuvre.
use Rattle.std.proofs.Common.{ℕ, ◌≡◌, ◌∙◌, ◌+◌, ◌^◌, ◌<◌, inl, inr, List, length, Option, None, Some, refl, ap, sym, subst, arith}
use Rattle.std.proofs.lemmas.Bool.{cases_lt}
use Rattle.std.proofs.lemmas.Int.Digits.{number_lt}
use Rattle.lattice.specs.Grids.{choices_of, plans_of}
use Rattle.lattice.specs.PlanNumbers.{IsPlan, number_of, plan_of}
use Rattle.lattice.proofs.Digits.{plan_after, plan_none}
use Rattle.plan_situations.specs.FailingPlans.{Fails}
use Rattle.plan_situations.specs.LeastPlans.{AllFail, IsLeastPlan, numbered}
use Rattle.plan_situations.specs.declared.situation.Situation.{Situation}
use Rattle.sessions.specs.PlanReport.{IsManoeuvre}

-- a plan is that of its number
plan_again : (choices legs : ℕ) (plan : List ℕ) → IsPlan choices legs plan → plan_of choices legs (number_of choices plan) ≡ plan
plan_again choices legs plan is =
    let e : length plan + 0 ≡ legs = omega (arith, is.count) in
    let after = plan_after choices 0 0 plan is.below in
    rw (e, plan_none choices 0) at after

module _ (s : Situation) where
  numbered_again : (plan : List ℕ) → IsPlan (choices_of s.lattice) s.lattice.legs plan → numbered s (number_of (choices_of s.lattice) plan) ≡ plan
  numbered_again plan is = plan_again (choices_of s.lattice) s.lattice.legs plan is

  pub each_fails : (plan : List ℕ) → IsPlan (choices_of s.lattice) s.lattice.legs plan → AllFail s → Fails s plan
  each_fails plan is all =
      let below = number_lt (choices_of s.lattice) plan is.below in
      let within : number_of (choices_of s.lattice) plan < plans_of s.lattice =
      subst (λ (n : ℕ). number_of (choices_of s.lattice) plan < choices_of s.lattice ^ n) is.count below in
      subst (Fails s) (numbered_again plan is) (all (number_of (choices_of s.lattice) plan) within)

  earlier : (p q : List ℕ) → IsLeastPlan s p → IsLeastPlan s q → number_of (choices_of s.lattice) p < number_of (choices_of s.lattice) q → ⊥
  earlier p q a b lt = a.passes (subst (Fails s) (numbered_again p a.whole) (b.least (number_of (choices_of s.lattice) p) lt))

  one_least : (p q : List ℕ) → IsLeastPlan s p → IsLeastPlan s q → p ≡ q
  one_least p q a b = elim (cases_lt (number_of (choices_of s.lattice) p) (number_of (choices_of s.lattice) q)) [
    | inl lt ↦ absurd (earlier p q a b lt)
    | inr ge ↦ elim (cases_lt (number_of (choices_of s.lattice) q) (number_of (choices_of s.lattice) p)) [
      | inl lt ↦ absurd (earlier q p b a lt)
      | inr le ↦ (let same : number_of (choices_of s.lattice) p ≡ number_of (choices_of s.lattice) q = omega arith in
          sym (numbered_again p a.whole) ∙ ap (numbered s) same ∙ numbered_again q b.whole)
    ]
  ]

  pub one_manoeuvre : (m n : Option (List ℕ)) → IsManoeuvre s m → IsManoeuvre s n → m ≡ n
  one_manoeuvre None None a b = refl
  one_manoeuvre None (Some q) a b = absurd (b.passes (each_fails q b.whole a))
  one_manoeuvre (Some p) None a b = absurd (a.passes (each_fails p a.whole b))
  one_manoeuvre (Some p) (Some q) a b = ap Some (one_least p q a b)
