-- Pairs in their order, and a set of them.
use Rattle.std.proofs.Common.{◌≡◌, ◌⊎◌, inl, inr, List, [], ◌∷◌, refl, sym, subst}
use Rattle.std.specs.List.{Contains}
use Rattle.std.specs.BTreeSet.{insert_key}
use Rattle.std.specs.declared.cmp.Ordering.{Ordering}
use Rattle.std.specs.declared.cmp.Ordering.TheVariants.{Less, Equal, Greater}
use Rattle.std.specs.Cmp.{IsTotalOrder}
use Rattle.std.specs.Ordering.{match_ordering, nat_cmp, ordering_then}
use Rattle.std.proofs.lemmas.Map.Lookups.{CmpEqualImpliesEq, exact_unsigned}
use Rattle.meetings.specs.contracts.pair.PairOrd.TheImpl as pair_ord
use Rattle.meetings.specs.contracts.pair.PairOrd.TheImpl.Laws as pair_laws
use Rattle.meetings.specs.declared.pair.Pair.{Pair}
use Rattle.outside.proofs.Members.{in_cons, in_head, in_none, in_tail}

abbrev pub pair_cmp : Pair → Pair → Ordering
pair_cmp = (pair_ord.ghosts).cmp

pub pair_total : IsTotalOrder pair_cmp
pair_total = pair_laws.total-law

then_equal : (a b : Ordering) → ordering_then a b ≡ Equal → (a ≡ Equal) × (b ≡ Equal)
then_equal Less b e = absurd (cc)
then_equal Equal b e = (refl, e)
then_equal Greater b e = absurd (cc)

pub pair_exact : CmpEqualImpliesEq pair_cmp
pair_exact a b e =
    let p = then_equal (nat_cmp a.subject b.subject) (nat_cmp a.other b.other) e in
    let s = exact_unsigned a.subject b.subject p.0 in
    let o = exact_unsigned a.other b.other p.1 in
    λ i. record { subject = s i; other = o i }

module _ {K : Type 0} (cmp : K → K → Ordering) (exact : CmpEqualImpliesEq cmp) (k : K) where
  abbrev stepped : Ordering → K → List K → List K
  stepped o x xs = match_ordering o (k ∷ x ∷ xs) (x ∷ xs) (x ∷ insert_key cmp xs k)

  pub has_inserted : (ks : List K) → Contains (insert_key cmp ks k) k
  has_inserted [] = in_head k []
  has_inserted (x ∷ xs) =
      elim (cmp k x) as (λ o. (cmp k x ≡ o) → Contains (stepped o x xs) k) [
        | Less ↦ λ _. in_head k (x ∷ xs)
        | Equal ↦ λ e. subst (λ (z : K). Contains (x ∷ xs) z) (sym (exact k x e)) (in_head x xs)
        | Greater ↦ λ _. in_tail x (insert_key cmp xs k) k (has_inserted xs)
      ] refl

  pub still_inserted : (ks : List K) (q : K) → Contains ks q → Contains (insert_key cmp ks k) q
  still_inserted [] q i = in_none q i
  still_inserted (x ∷ xs) q i =
      elim (cmp k x) as (λ o. Contains (stepped o x xs) q) [
        | Less ↦ in_tail k (x ∷ xs) q i
        | Equal ↦ i
        | Greater ↦ elim (in_cons x xs q i) [
          | inl same ↦ subst (λ (z : K). Contains (x ∷ insert_key cmp xs k) z) same (in_head x (insert_key cmp xs k))
          | inr later ↦ in_tail x (insert_key cmp xs k) q (still_inserted xs q later)
        ]
      ]

  pub was_inserted : (ks : List K) (q : K) → Contains (insert_key cmp ks k) q → Contains ks q ⊎ (k ≡ q)
  was_inserted [] q i = elim (in_cons k [] q i) [ inl same ↦ inr same | inr none ↦ in_none q none ]
  was_inserted (x ∷ xs) q i =
      elim (cmp k x) as (λ o. Contains (stepped o x xs) q → Contains (x ∷ xs) q ⊎ (k ≡ q)) [
        | Less ↦ λ j. elim (in_cons k (x ∷ xs) q j) [ inl same ↦ inr same | inr later ↦ inl later ]
        | Equal ↦ λ j. inl j
        | Greater ↦ λ j. elim (in_cons x (insert_key cmp xs k) q j) [
          | inl same ↦ inl (subst (λ (z : K). Contains (x ∷ xs) z) same (in_head x xs))
          | inr later ↦ elim (was_inserted xs q later) [ inl there ↦ inl (in_tail x xs q there) | inr new ↦ inr new ]
        ]
      ] i
