-- The rows below a bound are a front of all rows.
use Rattle.std.proofs.Common.{◌≡◌, ℕ, ◌<◌, ◌≤◌, List, [], ◌∷◌, ◌++◌, map, Bool, true, false, cond, refl, sym, ap, subst, ◌∙◌, arith, ◌⊎◌, inl, inr, nat_le}
use Rattle.std.specs.List.{Contains, filter}
use Rattle.std.specs.List.Sorted.{IsStrictlySortedBy}
use Rattle.std.proofs.lemmas.Bool.Decides.{nat_tests}
use Rattle.std.proofs.lemmas.List.Elements.{Contains-append_left, Contains-append_right, Contains-append_cases}
use Rattle.std.specs.declared.cmp.Ordering.{Ordering}
use Rattle.std.specs.declared.cmp.Ordering.TheVariants.{Less}
use Rattle.audit_rows.specs.declared.row.Row.{Row}
use Rattle.audit_rows.specs.Order.{last_step_of, place_cmp, sort_key_of}
use Rattle.audit_rows.specs.Rows.{AreRows, AreRowsBelow, IsRow}
use Rattle.audit_rows.specs.Tracks.{AreSettled, Continue, Track}
use Rattle.outside.proofs.Members.{in_cons, in_head, in_none, in_tail}
use Rattle.audit_rows.proofs.StrictOrder.{less_than, all_from, sorted_append, same_list}
use Rattle.audit_rows.proofs.Places.{place_total, earlier_first}
use Rattle.audit_rows.proofs.Tracks.{row_still, row_before, settled_is_closed}

module _ {X : Type 0} (p : X → Bool) where
  pub from_filter : (xs : List X) (x : X) → Contains (filter p xs) x → Contains xs x × (p x ≡ true)
  from_filter [] x h = in_none x h
  from_filter (y ∷ ys) x h =
      elim (p y) as (λ b. (p y ≡ b) → Contains (cond b (y ∷ filter p ys) (filter p ys)) x → Contains (y ∷ ys) x × (p x ≡ true)) [
        | true ↦ λ e i. elim (in_cons y (filter p ys) x i) [
          | inl same ↦ (subst (Contains (y ∷ ys)) same (in_head y ys), sym (ap p same) ∙ e)
          | inr later ↦ (let r = from_filter ys x later in (in_tail y ys x r.0, r.1))
        ]
        | false ↦ λ e i. let r = from_filter ys x i in (in_tail y ys x r.0, r.1)
      ] refl h

  pub in_filter : (xs : List X) (x : X) → Contains xs x → p x ≡ true → Contains (filter p xs) x
  in_filter [] x h q = in_none x h
  in_filter (y ∷ ys) x h q =
      elim (in_cons y ys x h) [
        | inl same ↦ (let e : p y ≡ true = ap p same ∙ q in rw e (subst (Contains (y ∷ filter p ys)) same (in_head y (filter p ys))))
        | inr later ↦ elim (p y) as (λ b. Contains (cond b (y ∷ filter p ys) (filter p ys)) x) [
          | true ↦ in_tail y (filter p ys) x (in_filter ys x later q)
          | false ↦ in_filter ys x later q
        ]
      ]

  pub sorted_filter : {K : Type 0} (place : X → K) (cmp : K → K → Ordering) (xs : List X) → IsStrictlySortedBy cmp (map place xs) → IsStrictlySortedBy cmp (map place (filter p xs))
  unfolding IsStrictlySortedBy
  sorted_filter place cmp [] s = tt
  sorted_filter place cmp (y ∷ ys) s =
      elim (p y) as (λ b. IsStrictlySortedBy cmp (map place (cond b (y ∷ filter p ys) (filter p ys)))) [
        | true ↦ (all_from place cmp (λ k. cmp (place y) k ≡ Less) (filter p ys) (λ z i. less_than place cmp y ys z s (from_filter ys z i).0), sorted_filter place cmp ys s.1)
        | false ↦ sorted_filter place cmp ys s.1
      ]

-- the rows below the bound of the tracks are those of all longer tracks
pub still_below : (bound : ℕ) (tracks later : List Track) (rows : List Row) → AreSettled bound tracks → Continue bound tracks later → AreRowsBelow bound tracks rows → AreRowsBelow bound later rows
still_below bound tracks later rows s c h = record {
  each = λ row. (
    λ i. let (is, lt) = (h.each row).0 i in (row_still bound tracks later row c (settled_is_closed bound tracks row s is lt), lt),
    λ (is, lt). (h.each row).1 (row_before bound tracks later row s c is lt, lt),
  );
  ordered = h.ordered;
}

which : (m n : ℕ) → (m ≤ n) ⊎ (n < m)
which m n = grind arith

front_in_all : (bound : ℕ) (tracks : List Track) (rows all : List Row) → AreRowsBelow bound tracks rows → AreRows tracks all → (rest : List Row) × (all ≡ rows ++ rest)
front_in_all bound tracks rows all h k =
    let rest = filter (λ (row : Row). nat_le bound (last_step_of row)) all in (
      rest,
      same_list sort_key_of place_cmp place_total all (rows ++ rest) k.ordered
          (sorted_append sort_key_of place_cmp rows rest h.ordered (sorted_filter (λ row. nat_le bound (last_step_of row)) sort_key_of place_cmp all k.ordered)
          (λ x y i j. earlier_first (sort_key_of x) (sort_key_of y) (let lt = ((h.each x).0 i).1 in let le = late y j in omega arith)))
          (λ z i. split z ((k.each z).0 i) i)
          (λ z i. elim (Contains-append_cases rows rest z i) [
            | inl here ↦ (k.each z).1 ((h.each z).0 here).0
            | inr there ↦ (from_filter (λ row. nat_le bound (last_step_of row)) all z there).0
          ]),
    )
  where
    late : (y : Row) → Contains (filter (λ (row : Row). nat_le bound (last_step_of row)) all) y → bound ≤ last_step_of y
    late y j = let e : nat_le bound (last_step_of y) ≡ true = (from_filter (λ row. nat_le bound (last_step_of row)) all y j).1 in grind (arith, nat_tests)

    split : (z : Row) → IsRow tracks z → Contains all z → Contains (rows ++ filter (λ (row : Row). nat_le bound (last_step_of row)) all) z
    split z is i =
        elim (which bound (last_step_of z)) [
          | inl le ↦ Contains-append_right rows _ z (in_filter (λ row. nat_le bound (last_step_of row)) all z i (grind (arith, nat_tests)))
          | inr lt ↦ Contains-append_left rows _ z ((h.each z).1 (is, lt))
        ]

-- ---- the laws

pub one_list : (tracks : List Track) (rows others : List Row) → AreRows tracks rows → AreRows tracks others → rows ≡ others
one_list tracks rows others h k = same_list sort_key_of place_cmp place_total rows others h.ordered k.ordered (λ z i. (k.each z).1 ((h.each z).0 i)) (λ z i. (h.each z).1 ((k.each z).0 i))

pub front_of_all : (bound : ℕ) (tracks later : List Track) (rows all : List Row) → AreSettled bound tracks → Continue bound tracks later → AreRowsBelow bound tracks rows → AreRows later all
    → (rest : List Row) × (all ≡ rows ++ rest)
front_of_all bound tracks later rows all s c h k = front_in_all bound later rows all (still_below bound tracks later rows s c h) k
