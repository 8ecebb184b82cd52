-- What holds of each number below a bound, and of the bound.
use Rattle.std.proofs.Common.{◌≡◌, ◌∙◌, ℕ, ◌+◌, ◌<◌, inl, inr, List, length, get_or, subst, ap, arith}
use Rattle.std.proofs.lemmas.Bool.{cases_lt}
use Rattle.std.proofs.lemmas.List.{get_or_default}

pub grow : (P : ℕ → Type 0) (k : ℕ) → ((i : ℕ) → i < k → P i) → P k → (i : ℕ) → i < k + 1 → P i
grow P k before here i lt = elim (cases_lt i k) [
  | inl less ↦ before i less
  | inr ge ↦ (let same : k ≡ i = omega arith in subst P same here)
]

pub grow_item : {X : Type 0} (P : X → Type 0) (xs : List X) (n : ℕ) (x : X) → n < length xs → x ≡ get_or xs n x → ((i : ℕ) (d : X) → i < n → P (get_or xs i d)) → P x
    → (i : ℕ) (d : X) → i < n + 1 → P (get_or xs i d)
grow_item {X} P xs n x inside is before here i d lt = elim (cases_lt i n) [
  | inl earlier ↦ before i d earlier
  | inr last ↦ (let e : n ≡ i = omega arith in let same : x ≡ get_or xs i d = is ∙ (get_or_default xs n x d inside ∙ ap (λ (k : ℕ). get_or xs k d) e) in subst P same here)
]
