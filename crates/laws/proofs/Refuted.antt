-- What cannot be refuted. A proof computes nothing from such a fact, but it may use it to refute another one.
use Rattle.std.proofs.Common.{ℕ, zero, suc, ◌≡◌, ◌<◌, ◌⊎◌, inl, inr, subst, arith}
use Rattle.std.proofs.lemmas.Bool.{cases_lt}

pub holds : {P : Type 0} → P → ¬ ¬ P
holds here not = not here

pub and_then : {P Q : Type 0} → ¬ ¬ P → (P → ¬ ¬ Q) → ¬ ¬ Q
and_then some more none = some (λ here. more here none)

-- that a fact neither holds nor fails is refuted
pub holds_or_not : (P : Type 0) → ¬ ¬ (P ⊎ ¬ P)
holds_or_not P neither = neither (inr (λ here. neither (inl here)))

-- ---- facts about all numbers below a bound

below_next : (P : ℕ → Type 0) (n : ℕ) → ((k : ℕ) → k < n → P k) → P n → (k : ℕ) → k < suc n → P k
below_next P n before here k lt = elim (cases_lt k n) [
  | inl less ↦ before k less
  | inr ge ↦ (let same : n ≡ k = omega arith in subst P same here)
]

-- What cannot be refuted of each number cannot be refuted of all.
pub each_below : (P : ℕ → Type 0) (n : ℕ) → ((k : ℕ) → k < n → ¬ ¬ P k) → ¬ ¬ ((k : ℕ) → k < n → P k)
each_below P zero some none = none (λ k lt. absurd (omega arith))
each_below P (suc n) some none =
    each_below P n (λ k lt. some k (omega arith)) (λ before. some n (omega arith) (λ here. none (below_next P n before here)))

-- the least number that satisfies P
pub record IsLeast (P : ℕ → Type 0) (n : ℕ) : Type 0 where
  pub here : P n
  pub before : (k : ℕ) → k < n → ¬ P k

-- Some number below the bound is the least that satisfies P, or none of them satisfies P.
abbrev pub LeastOrNone : (ℕ → Type 0) → ℕ → Type 0
LeastOrNone P bound = ((n : ℕ) × (n < bound) × IsLeast P n) ⊎ ((k : ℕ) → k < bound → ¬ P k)

pub least_or_none : (P : ℕ → Type 0) (bound : ℕ) → ¬ ¬ LeastOrNone P bound
least_or_none P zero neither = neither (inr (λ k lt. absurd (omega arith)))
least_or_none P (suc n) neither = least_or_none P n (λ so_far. elim so_far [
  | inl found ↦ neither (inl (found.0, (let lt = found.1 in omega arith), found.2))
  | inr none ↦ holds_or_not (P n) (λ either. elim either [
    | inl here ↦ neither (inl (n, omega arith, record { here = here; before = none }))
    | inr not ↦ neither (inr (below_next (λ k. ¬ P k) n none not))
  ])
])
