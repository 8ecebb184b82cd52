-- Fronts of a list that a test or a number divides.
use Rattle.std.proofs.Common.{◌≡◌, ◌∙◌, ℕ, zero, suc, ◌+◌, ◌<◌, ◌≤◌, Bool, true, false, cond, List, [], ◌∷◌, ◌++◌, length, take, get_or, refl, ap, sym, arith}
use native.Mathlib.Numerals.{unary_clauses}
use Rattle.std.specs.Prelude.{nat_le}
use Rattle.std.specs.List.{filter, insert}
use Rattle.std.specs.List.Sorted.{IsPartitionPoint}
use Rattle.std.proofs.lemmas.Bool.Decides.{nat_tests}
use Rattle.motion.proofs.LastPassing.{filter_none}

-- None passes from an index on.
pub filter_take : {X : Type 0} (p : X → Bool) (xs : List X) (i : ℕ) → ((k : ℕ) (d : X) → i ≤ k → k < length xs → p (get_or xs k d) ≡ false)
    → filter p (take i xs) ≡ filter p xs
filter_take p xs zero none = sym (filter_none p xs (λ k d lt. none k d (omega arith) lt))
filter_take p [] (suc i) none = refl
filter_take p (x ∷ xs) (suc i) none =
    let rest : filter p (take i xs) ≡ filter p xs = filter_take p xs i (λ k d le lt. none (suc k) d (omega arith) (omega arith)) in
    ap (λ ys. cond (p x) (x ∷ ys) ys) rest

-- All before an index pass.
pub filter_front : {X : Type 0} (p : X → Bool) (xs : List X) (i : ℕ) → i ≤ length xs → ((k : ℕ) (d : X) → 0 ≤ k → k < i → p (get_or xs k d) ≡ true)
    → filter p (take i xs) ≡ take i xs
filter_front p xs zero le all = refl
filter_front p [] (suc i) le all = absurd (omega arith)
filter_front p (x ∷ xs) (suc i) le all =
    let here : p x ≡ true = all 0 x (omega arith) (omega arith) in
    let rest : filter p (take i xs) ≡ take i xs = filter_front p xs i (omega arith) (λ k d z lt. all (suc k) d (omega arith) (omega arith)) in
    rw here (ap (λ ys. x ∷ ys) rest)

insert_front : {X : Type 0} (xs : List X) (i : ℕ) (x : X) → i ≤ length xs → take (suc i) (insert xs i x) ≡ take i xs ++ x ∷ []
insert_front xs zero x le = refl
insert_front [] (suc i) x le = absurd (omega arith)
insert_front (y ∷ ys) (suc i) x le = ap (λ zs. y ∷ zs) (insert_front ys i x (omega arith))

pub take-insert : {X : Type 0} (xs : List X) (i : ℕ) (x : X) → i ≤ length xs → take (i + 1) (insert xs i x) ≡ take i xs ++ x ∷ []
take-insert xs i x le = simp unary_clauses (insert_front xs i x le)

pub within_front : {X : Type 0} (xs : List X) (i k : ℕ) (d : X) → k < length (take i xs) → (get_or (take i xs) k d ≡ get_or xs k d) × (k < length xs) × (k < i)
within_front xs zero k d lt = absurd (omega arith)
within_front [] (suc i) k d lt = absurd (omega arith)
within_front (x ∷ xs) (suc i) zero d lt = (refl, omega arith, omega arith)
within_front (x ∷ xs) (suc i) (suc k) d lt = let rest = within_front xs i k d (omega arith) in (rest.0, let l = rest.1 in omega arith, let l = rest.2 in omega arith)

-- ---- what has come by a time

abbrev pub IsBy : {X : Type 0} → (X → ℕ) → List X → ℕ → ℕ → Type 0
IsBy {X} number xs time i = IsPartitionPoint (λ (x : X). number x ≤ time) (λ (x : X). time < number x) xs i

-- What has come by a time is a front.
pub front_by : {X : Type 0} (number : X → ℕ) (xs : List X) (time i : ℕ) → IsBy number xs time i → i ≤ length xs → take i xs ≡ filter (λ x. nat_le (number x) time) xs
front_by {X} number xs time i parts le =
    let p : X → Bool = λ x. nat_le (number x) time in
    let front : filter p (take i xs) ≡ take i xs = filter_front p xs i le (λ k d z lt. let before = parts.0 k d z lt in grind (arith, nat_tests)) in
    let all : filter p (take i xs) ≡ filter p xs = filter_take p xs i (λ k d from within. let after = parts.1 k d from within in grind (arith, nat_tests)) in
    sym front ∙ all
