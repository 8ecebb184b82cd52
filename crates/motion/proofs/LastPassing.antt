-- The last element of a list that passes a test.
use Rattle.std.proofs.Common.{◌≡◌, ℕ, zero, suc, ◌⊎◌, inl, inr, ◌<◌, List, [], ◌∷◌, length, get_or, Some, None, cond, Bool, true, false, refl, arith}
use Rattle.std.proofs.lemmas.Bool.{cases_Bool}
use Rattle.std.specs.Prelude.{Option}
use Rattle.std.specs.List.{All, filter, last_or}

pub filter_none : {X : Type 0} (p : X → Bool) (xs : List X) → All (λ x. p x ≡ false) xs → filter p xs ≡ []
filter_none p [] none = refl
filter_none p (x ∷ xs) none =
    let here : p x ≡ false = none 0 x (omega arith) in
    rw here (filter_none p xs (λ k d h. none (suc k) d (omega arith)))

-- an element that passes, if none after it does
last_passing_or : {X : Type 0} (p : X → Bool) (o : Option X) (xs : List X) (i : ℕ) (d : X) → i < length xs → p (get_or xs i d) ≡ true
    → ((k : ℕ) (e : X) → i < k → k < length xs → p (get_or xs k e) ≡ false) → last_or o (filter p xs) ≡ Some (get_or xs i d)
last_passing_or p o [] i d lt passes none = absurd (omega arith)
last_passing_or p o (x ∷ xs) zero d lt passes none =
    let here : p x ≡ true = passes in
    let rest : filter p xs ≡ [] = filter_none p xs (λ k e h. none (suc k) e (omega arith) (omega arith)) in
    rw (here, rest) refl
last_passing_or p o (x ∷ xs) (suc i) d lt passes none =
    elim (p x) as (λ b. last_or o (cond b (x ∷ filter p xs) (filter p xs)) ≡ Some (get_or xs i d)) [
      | true ↦ last_passing_or p (Some x) xs i d (omega arith) passes (λ k e h l. none (suc k) e (omega arith) (omega arith))
      | false ↦ last_passing_or p o xs i d (omega arith) passes (λ k e h l. none (suc k) e (omega arith) (omega arith))
    ]

pub last_passing : {X : Type 0} (p : X → Bool) (xs : List X) (i : ℕ) (d : X) → i < length xs → p (get_or xs i d) ≡ true
    → ((k : ℕ) (e : X) → i < k → k < length xs → p (get_or xs k e) ≡ false) → last_or None (filter p xs) ≡ Some (get_or xs i d)
last_passing p xs i d lt passes none = last_passing_or p None xs i d lt passes none

-- the last element stands at the last index
pub last_or-at : {X : Type 0} (o : Option X) (x : X) (xs : List X) (d : X) → last_or o (x ∷ xs) ≡ Some (get_or (x ∷ xs) (length xs) d)
last_or-at o x [] d = refl
last_or-at o x (y ∷ ys) d = last_or-at (Some x) y ys d

-- where the last element that passes stands
pub record IsLastAt {X : Type 0} (p : X → Bool) (xs : List X) (x : X) : Type 0 where
  pub index : ℕ
  pub within : index < length xs
  pub here : get_or xs index x ≡ x
  pub passes : p x ≡ true
  pub later : (k : ℕ) (e : X) → index < k → k < length xs → p (get_or xs k e) ≡ false

one_further : {X : Type 0} (p : X → Bool) (x y : X) (xs : List X) → IsLastAt p xs x → IsLastAt p (y ∷ xs) x
one_further {X} p x y xs h = record {
  index = suc h.index;
  within = let lt = h.within in omega arith;
  here = h.here;
  passes = h.passes;
  later = later;
}
  where
    later : (k : ℕ) (e : X) → suc h.index < k → k < length (y ∷ xs) → p (get_or (y ∷ xs) k e) ≡ false
    later zero e lt within = absurd (omega arith)
    later (suc k) e lt within = h.later k e (omega arith) (omega arith)

found_or : {X : Type 0} (p : X → Bool) (o : Option X) (xs : List X) (x : X) → last_or o (filter p xs) ≡ Some x
    → ((o ≡ Some x) × All (λ y. p y ≡ false) xs) ⊎ IsLastAt p xs x
found_or p o [] x e = inl (e, λ k d lt. absurd (omega arith))
found_or {X} p o (y ∷ ys) x e =
    elim (cases_Bool (p y)) [
      | inl holds ↦ (let e' = rw holds at e in elim (found_or p (Some y) ys x e') [
        | inl (same, none) ↦ (let same' : y ≡ x = cc in inr (record {
          index = 0;
          within = omega arith;
          here = same';
          passes = rw (← same') holds;
          later = after none;
        }))
        | inr h ↦ inr (one_further p x y ys h)
      ])
      | inr fails ↦ (let e' = rw fails at e in elim (found_or p o ys x e') [
        | inl (same, none) ↦ inl (same, all fails none)
        | inr h ↦ inr (one_further p x y ys h)
      ])
    ]
  where
    after : All (λ y. p y ≡ false) ys → (k : ℕ) (d : X) → 0 < k → k < length (y ∷ ys) → p (get_or (y ∷ ys) k d) ≡ false
    after none zero d lt within = absurd (omega arith)
    after none (suc k) d lt within = none k d (omega arith)

    all : p y ≡ false → All (λ y. p y ≡ false) ys → (k : ℕ) (d : X) → k < length (y ∷ ys) → p (get_or (y ∷ ys) k d) ≡ false
    all fails none zero d within = fails
    all fails none (suc k) d within = none k d (omega arith)

pub found : {X : Type 0} (p : X → Bool) (xs : List X) (x : X) → last_or None (filter p xs) ≡ Some x → IsLastAt p xs x
found p xs x e =
    elim (found_or p None xs x e) [
      | inl (none, _) ↦ cc
      | inr h ↦ h
    ]
