-- The greatest number below a bound that passes a test.
use Rattle.std.proofs.Common.{◌≡◌, ℕ, zero, suc, ◌<◌, ◌≤◌, inl, inr, sym, subst, refl, ◌∙◌, arith}
use Rattle.std.proofs.Math.Nat.{eq-or-lt_of_le}
use Rattle.std.specs.Prelude.{Bool, true, false, if◌then◌else◌}
use Rattle.fixed_geometry.specs.Bearing.{greatest_below}

-- It passes, and none above it does.
pub greatest_below-is : (n : ℕ) (test : ℕ → Bool) (k : ℕ) → k < n → test k ≡ true → ((j : ℕ) → k < j → j < n → test j ≡ false) → greatest_below n test ≡ k
unfolding greatest_below
greatest_below-is zero test k lt passes above = absurd (omega arith)
greatest_below-is (suc n) test k lt passes above =
    elim (eq-or-lt_of_le (omega arith)) [
      | inl same ↦ last same
      | inr below ↦ (let fails : test n ≡ false = above n below (omega arith) in rw fails) ∙ greatest_below-is n test k below passes (λ j h l. above j h (omega arith))
    ]
  where
    last : k ≡ n → greatest_below (suc n) test ≡ k
    last same = let here : test n ≡ true = subst (λ (i : ℕ). test i ≡ true) same passes in rw here (sym same)

if_last : (n : ℕ) (test : ℕ → Bool) (b : Bool) → test n ≡ b → greatest_below (suc n) test ≡ (if b then n else greatest_below n test)
unfolding greatest_below
if_last n test b is = rw is refl

-- It is no less than any that passes.
pub greatest_below-least : (n : ℕ) (test : ℕ → Bool) (k : ℕ) → k < n → test k ≡ true → k ≤ greatest_below n test
greatest_below-least zero test k lt passes = absurd (omega arith)
greatest_below-least (suc n) test k lt passes = go (test n) refl (greatest_below-least n test k)
  where
    go : (b : Bool) → test n ≡ b → (k < n → test k ≡ true → k ≤ greatest_below n test) → k ≤ greatest_below (suc n) test
    go true is before = rw (if_last n test true is) (omega arith)
    go false is before = rw (if_last n test false is) (elim (let le : k ≤ n = omega arith in eq-or-lt_of_le le) [
      | inl same ↦ absurd (let here : test n ≡ true = subst (λ (i : ℕ). test i ≡ true) same passes in cc)
      | inr below ↦ before below passes
    ])

-- It passes, if 0 does.
pub greatest_below-passes : (n : ℕ) (test : ℕ → Bool) → test 0 ≡ true → test (greatest_below n test) ≡ true
unfolding greatest_below
greatest_below-passes zero test first = first
greatest_below-passes (suc n) test first = go (test n) refl (greatest_below-passes n test first)
  where
    go : (b : Bool) → test n ≡ b → test (greatest_below n test) ≡ true → test (greatest_below (suc n) test) ≡ true
    go true is before = rw (if_last n test true is) is
    go false is before = rw (if_last n test false is) before

pub greatest_below-below : (n : ℕ) (test : ℕ → Bool) → greatest_below (suc n) test ≤ n
unfolding greatest_below
greatest_below-below zero test = go (test 0) refl
  where
    go : (b : Bool) → test 0 ≡ b → greatest_below 1 test ≤ 0
    go true is = rw (if_last 0 test true is) (omega arith)
    go false is = rw (if_last 0 test false is) (omega arith)
greatest_below-below (suc n) test = go (test (suc n)) refl (greatest_below-below n test)
  where
    go : (b : Bool) → test (suc n) ≡ b → greatest_below (suc n) test ≤ n → greatest_below (suc (suc n)) test ≤ suc n
    go true is before = rw (if_last (suc n) test true is) (omega arith)
    go false is before = rw (if_last (suc n) test false is) (omega arith)
