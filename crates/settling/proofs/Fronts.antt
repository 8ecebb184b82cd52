-- Lists in order, one a front of another: what stands in the longer one before one of the shorter one's is among the shorter one's.
use Rattle.std.proofs.Common.{◌≡◌, ℕ, ◌<◌, ◌≤◌, ◌⊎◌, inl, inr, List, [], ◌∷◌, ◌++◌, map, refl, sym, ap, ap₂, subst, ◌∙◌, arith}
use Rattle.std.specs.List.{Contains}
use Rattle.std.specs.List.Sorted.{IsStrictlySortedBy}
use Rattle.std.specs.Cmp.{IsTotalOrder}
use Rattle.std.specs.Ordering.{ordering_reverse}
use Rattle.std.specs.declared.cmp.Ordering.{Ordering}
use Rattle.std.specs.declared.cmp.Ordering.TheVariants.{Less}
use Rattle.outside.proofs.Members.{in_cons, in_head, in_none, in_tail}
use Rattle.audit_rows.proofs.ForCallers.{less_than, tail_sorted}

le_or_gt : (m n : ℕ) → (m ≤ n) ⊎ (n < m)
le_or_gt m n = grind arith

module _ {K : Type 0} (cmp : K → K → Ordering) (total : IsTotalOrder cmp) where
  not_both : {G : Type 0} (a b : K) → cmp a b ≡ Less → cmp b a ≡ Less → G
  not_both a b p q = let e : Less ≡ ordering_reverse Less = sym p ∙ (total.antisymm a b ∙ ap ordering_reverse q) in absurd (cc)

  -- Where the order goes by a number first, what stands before another has no greater one.
  pub no_later : (number : K → ℕ) → ((a b : K) → number a < number b → cmp a b ≡ Less) → (a b : K) → cmp a b ≡ Less → number a ≤ number b
  no_later number first a b before = elim (le_or_gt (number a) (number b)) [
    | inl le ↦ le
    | inr gt ↦ not_both a b before (first b a gt)
  ]

  module _ {X : Type 0} (place : X → K) where
    abbrev AreInOrder : List X → Type 0
    AreInOrder xs = IsStrictlySortedBy cmp (map place xs)

    not_again : {G : Type 0} (x : X) (xs : List X) → AreInOrder (x ∷ xs) → Contains xs x → G
    not_again x xs ordered i = let before = less_than place cmp x xs x ordered i in not_both (place x) (place x) before before

    -- What stands before one of the items is one of them.
    abbrev pub IsFrontOf : List X → List X → Type 0
    IsFrontOf items all = (x y : X) → Contains items x → Contains all y → cmp (place y) (place x) ≡ Less → Contains items y

    same_first : (x : X) (xs : List X) (y : X) (ys : List X) → AreInOrder (x ∷ xs) → AreInOrder (y ∷ ys) → Contains (y ∷ ys) x → IsFrontOf (x ∷ xs) (y ∷ ys) → y ≡ x
    same_first x xs y ys s t i h =
        elim (in_cons y ys x i) [
          | inl same ↦ same
          | inr later ↦ (let before = less_than place cmp y ys x t later in
              elim (in_cons x xs y (h x y (in_head x xs) (in_head y ys) before)) [
                | inl same ↦ sym same
                | inr there ↦ not_both (place x) (place y) (less_than place cmp x xs y s there) before
              ])
        ]

    pub front : (items all : List X) → AreInOrder items → AreInOrder all → ((x : X) → Contains items x → Contains all x) → IsFrontOf items all
        → (rest : List X) × (all ≡ items ++ rest)
    front [] all s t h k = (all, refl)
    front (x ∷ xs) [] s t h k = in_none x (h x (in_head x xs))
    front (x ∷ xs) (y ∷ ys) s t h k =
        let same : y ≡ x = same_first x xs y ys s t (h x (in_head x xs)) k in
        let rest = front xs ys (tail_sorted place cmp x xs s) (tail_sorted place cmp y ys t) (inside same) (before same) in
        (rest.0, ap₂ (λ (z : X) (zs : List X). z ∷ zs) same rest.1)
      where
        inside : y ≡ x → (z : X) → Contains xs z → Contains ys z
        inside same z i = elim (in_cons y ys z (h z (in_tail x xs z i))) [
          | inl here ↦ not_again x xs s (subst (Contains xs) (sym here ∙ same) i)
          | inr later ↦ later
        ]

        before : y ≡ x → IsFrontOf xs ys
        before same z w i j lt = elim (in_cons x xs w (k z w (in_tail x xs z i) (in_tail y ys w j) lt)) [
          | inl here ↦ not_again y ys t (subst (Contains ys) (sym here ∙ sym same) j)
          | inr later ↦ later
        ]
