-- Members of a list, by its head and its tail.
use Rattle.std.proofs.Common.{◌≡◌, zero, suc, List, [], ◌∷◌, ◌⊎◌, inl, inr, refl, arith}
use Rattle.std.specs.List.{Contains}

pub in_cons : {X : Type 0} (y : X) (ys : List X) (x : X) → Contains (y ∷ ys) x → (y ≡ x) ⊎ Contains ys x
in_cons y ys x (zero, lt, e) = inl e
in_cons y ys x (suc k, lt, e) = inr (k, omega arith, e)

pub in_head : {X : Type 0} (y : X) (ys : List X) → Contains (y ∷ ys) y
in_head y ys = (0, omega arith, refl)

pub in_tail : {X : Type 0} (y : X) (ys : List X) (x : X) → Contains ys x → Contains (y ∷ ys) x
in_tail y ys x h = (suc h.0, (let lt = h.1 in omega arith), h.2)

pub in_none : {X : Type 0} {G : Type 0} (x : X) → Contains [] x → G
in_none x h = let lt = h.1 in absurd (omega arith)
