-- Different numbers of a range are no more than it has.
use Rattle.std.proofs.Common.{ℕ, zero, suc, ◌≡◌, ◌≢◌, ◌+◌, ◌≤◌, ◌<◌, ◌==◌, Bool, true, List, [], ◌∷◌, length, refl, sym, ◌∙◌, arith}
use Rattle.std.specs.Prelude.{All, filter, not}
use Rattle.std.specs.List.{AllPairs}
use Rattle.std.proofs.lemmas.Bool.Decides.{nat_tests}
use Rattle.std.proofs.lemmas.List.Elements.{All-filter, All-head, filter_passes}
use Rattle.std.proofs.lemmas.List.Filters.{length-filter_both}
use Rattle.std.proofs.lemmas.List.Kept.{AllPairs-filter}

is_it : (n x : ℕ) → (x == n) ≡ true → x ≡ n
is_it n x h = grind (arith, nat_tests)

-- different numbers that are all this one are one at most
one_at_most : (n : ℕ) (xs : List ℕ) → AllPairs ◌≢◌ xs → All (λ x. (x == n) ≡ true) xs → length xs ≤ 1
one_at_most n [] d all = omega arith
one_at_most n (x ∷ []) d all = omega arith
one_at_most n (x ∷ y ∷ more) d all =
    let first : x ≡ n = is_it n x (all 0 x (omega arith)) in
    let second : y ≡ n = is_it n y (all 1 x (omega arith)) in
    absurd (d 0 1 x (omega arith) (omega arith) (first ∙ sym second))

nearer : (low n x : ℕ) → (low ≤ x) × (x < low + suc n) → not (x == low + n) ≡ true → (low ≤ x) × (x < low + n)
nearer low n x lies h = (lies.0, other)
  where
    other : x < low + n
    other = let below = lies.1 in grind (arith, nat_tests)

pub few_between : (low n : ℕ) (xs : List ℕ) → AllPairs ◌≢◌ xs → All (λ x. (low ≤ x) × (x < low + n)) xs → length xs ≤ n
few_between low zero [] d all = omega arith
few_between low zero (x ∷ xs) d all = let head = All-head (λ (y : ℕ). (low ≤ y) × (y < low + 0)) x xs all in absurd (omega (arith, head.0, head.1))
few_between low (suc n) xs d all =
    let is : ℕ → Bool = λ x. x == low + n in
    let others : ℕ → Bool = λ x. not (x == low + n) in
    let lie = All-filter others (λ (x : ℕ). (low ≤ x) × (x < low + suc n)) xs all in
    let pass = filter_passes others xs in
    let fewer = few_between low n (filter others xs) (AllPairs-filter ◌≢◌ others xs d) (λ k e lt. nearer low n _ (lie k e lt) (pass k e lt)) in
    let one = one_at_most (low + n) (filter is xs) (AllPairs-filter ◌≢◌ is xs d) (filter_passes is xs) in
    let both = length-filter_both is others (λ x. refl) xs in
    omega (arith, fewer, one, both)
