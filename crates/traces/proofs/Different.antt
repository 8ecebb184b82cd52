-- Lists whose elements are different.
use Rattle.std.proofs.Common.{◌≡◌, ◌≢◌, ℕ, suc, ◌≤◌, inl, inr, List, [], ◌∷◌, ◌++◌, length, map, refl, sym, ap, subst, ◌∙◌, arith}
use Rattle.std.specs.List.{AllPairs, Contains, sum_by}
use Rattle.std.proofs.lemmas.List.{get_or-map, length-map}
use Rattle.std.proofs.lemmas.List.Elements.{Contains-append_left, Contains-append_right, Contains-append_cases, Contains-get_or}
use Rattle.std.proofs.lemmas.List.Kept.{AllPairs-cons}
use Rattle.std.proofs.lemmas.List.Quantifiers.{all_pairs_push}
use Rattle.std.proofs.lemmas.List.Sums.{sum_by-append, sum_by-cons}
use Rattle.outside.proofs.Members.{in_cons, in_head, in_none, in_tail}

module _ {X : Type 0} where
  pub different_none : AllPairs {X = X} ◌≢◌ []
  different_none i j d lt within = absurd (omega arith)

  pub different_cons : (x : X) (xs : List X) → (Contains xs x → ⊥) → AllPairs ◌≢◌ xs → AllPairs ◌≢◌ (x ∷ xs)
  different_cons x xs new d = AllPairs-cons ◌≢◌ x xs (λ k e lt same. new (subst (λ (z : X). Contains xs z) (sym same) (Contains-get_or xs k e lt))) d

  pub different_push : (xs : List X) (x : X) → AllPairs ◌≢◌ xs → (Contains xs x → ⊥) → AllPairs ◌≢◌ (xs ++ x ∷ [])
  different_push xs x d new = all_pairs_push ◌≢◌ xs x d (λ k e lt same. new (subst (λ (z : X). Contains xs z) same (Contains-get_or xs k e lt)))

  different_head : (x : X) (xs : List X) → AllPairs ◌≢◌ (x ∷ xs) → Contains xs x → ⊥
  different_head x xs d (k, lt, e) = d 0 (suc k) x (omega arith) (omega arith) (sym e)

  different_tail : (x : X) (xs : List X) → AllPairs ◌≢◌ (x ∷ xs) → AllPairs ◌≢◌ xs
  different_tail x xs d i j e lt within = d (suc i) (suc j) e (omega arith) (omega arith)

  -- elements of one list and then those of another
  pub different_append : (xs ys : List X) → AllPairs ◌≢◌ xs → AllPairs ◌≢◌ ys → ((x : X) → Contains xs x → Contains ys x → ⊥) → AllPairs ◌≢◌ (xs ++ ys)
  different_append [] ys d e apart = e
  different_append (x ∷ xs) ys d e apart =
      different_cons x (xs ++ ys) (λ i. elim (Contains-append_cases xs ys x i) [
        | inl here ↦ different_head x xs d here
        | inr there ↦ apart x (in_head x xs) there
      ]) (different_append xs ys (different_tail x xs d) e (λ z i j. apart z (in_tail x xs z i) j))

  -- none of them stands before itself
  pub different_before : (xs : List X) (y : X) (ys : List X) → AllPairs ◌≢◌ (xs ++ y ∷ ys) → Contains xs y → ⊥
  different_before [] y ys d i = in_none y i
  different_before (x ∷ xs) y ys d i =
      elim (in_cons x xs y i) [
        | inl same ↦ different_head x (xs ++ y ∷ ys) d (subst (λ (z : X). Contains (xs ++ y ∷ ys) z) (sym same) (Contains-append_right xs (y ∷ ys) y (in_head y ys)))
        | inr later ↦ different_before xs y ys (different_tail x (xs ++ y ∷ ys) d) later
      ]

  parted : (ys : List X) (x : X) → Contains ys x → (front : List X) × (back : List X) × (ys ≡ front ++ x ∷ back)
  parted [] x i = in_none x i
  parted (y ∷ ys) x i =
      elim (in_cons y ys x i) [
        | inl same ↦ ([], ys, ap (λ (z : X). z ∷ ys) same)
        | inr later ↦ (let (front, back, e) = parted ys x later in (y ∷ front, back, ap (λ (zs : List X). y ∷ zs) e))
      ]

  -- ---- sums over different elements

  -- Over different elements of a list a sum is no greater than over the list.
  sum_within : (f : X → ℕ) (xs ys : List X) → AllPairs ◌≢◌ xs → ((x : X) → Contains xs x → Contains ys x) → sum_by f xs ≤ sum_by f ys
  sum_within f [] ys d h = let none : sum_by f [] ≡ 0 = refl in omega arith
  sum_within f (x ∷ xs) ys d h =
      let (front, back, e) = parted ys x (h x (in_head x xs)) in
      let whole : sum_by f ys ≡ sum_by f (front ++ x ∷ back) = ap (λ (zs : List X). sum_by f zs) e in
      let rest = sum_within f xs (front ++ back) (different_tail x xs d) (λ z i. elsewhere front back z i (subst (λ (zs : List X). Contains zs z) e (h z (in_tail x xs z i)))) in
      omega (arith, sum_by-cons f x xs, sum_by-append f front (x ∷ back), sum_by-cons f x back, sum_by-append f front back)
    where
      elsewhere : (front back : List X) (z : X) → Contains xs z → Contains (front ++ x ∷ back) z → Contains (front ++ back) z
      elsewhere front back z i there =
          elim (Contains-append_cases front (x ∷ back) z there) [
            | inl here ↦ Contains-append_left front back z here
            | inr behind ↦ elim (in_cons x back z behind) [
              | inl same ↦ absurd (different_head x xs d (subst (λ (w : X). Contains xs w) (sym same) i))
              | inr later ↦ Contains-append_right front back z later
            ]
          ]

  -- Lists of different elements that have the same ones have equal sums.
  pub same_sum : (f : X → ℕ) (xs ys : List X) → AllPairs ◌≢◌ xs → AllPairs ◌≢◌ ys → ((x : X) → Contains xs x → Contains ys x) → ((x : X) → Contains ys x → Contains xs x)
      → sum_by f xs ≡ sum_by f ys
  same_sum f xs ys d e h k =
      let le = sum_within f xs ys d h in
      let ge = sum_within f ys xs e k in
      omega arith

  ones : (xs : List X) → sum_by (λ x. 1) xs ≡ length xs
  ones [] = refl
  ones (x ∷ xs) = let rest = ones xs in let all = sum_by-cons (λ (y : X). 1) x xs in omega arith

  -- Different elements of a list are no more than it has.
  pub few_different : (xs ys : List X) → AllPairs ◌≢◌ xs → ((x : X) → Contains xs x → Contains ys x) → length xs ≤ length ys
  few_different xs ys d h = let le = sum_within (λ x. 1) xs ys d h in omega (arith, ones xs, ones ys)

module _ {X Y : Type 0} (f : X → Y) where
  -- Elements whose images are different are different.
  pub different_from_map : (xs : List X) → AllPairs ◌≢◌ (map f xs) → AllPairs ◌≢◌ xs
  different_from_map xs d i j e lt within = λ same.
      let count = length-map xs f in
      d i j (f e) lt (omega arith) (get_or-map f xs i e (f e) (omega arith) ∙ (ap f same ∙ sym (get_or-map f xs j e (f e) within)))

  pub in_map : (xs : List X) (x : X) → Contains xs x → Contains (map f xs) (f x)
  in_map [] x i = in_none x i
  in_map (y ∷ ys) x i =
      elim (in_cons y ys x i) [
        | inl same ↦ subst (λ (z : X). Contains (map f (y ∷ ys)) (f z)) same (in_head (f y) (map f ys))
        | inr later ↦ in_tail (f y) (map f ys) (f x) (in_map ys x later)
      ]

  pub from_map : (xs : List X) (y : Y) → Contains (map f xs) y → (x : X) × Contains xs x × (f x ≡ y)
  from_map [] y i = in_none y i
  from_map (x ∷ xs) y i =
      elim (in_cons (f x) (map f xs) y i) [
        | inl same ↦ (x, in_head x xs, same)
        | inr later ↦ (let (z, j, e) = from_map xs y later in (z, in_tail x xs z j, e))
      ]

  -- Images of different elements are different where no two elements have one.
  pub different_map : ((x y : X) → f x ≡ f y → x ≡ y) → (xs : List X) → AllPairs ◌≢◌ xs → AllPairs ◌≢◌ (map f xs)
  different_map one [] d = different_none
  different_map one (x ∷ xs) d =
      different_cons (f x) (map f xs)
      (λ i. let (y, j, e) = from_map xs (f x) i in different_head x xs d (subst (λ (z : X). Contains xs z) (one y x e) j)) (different_map one xs (different_tail x xs d))
