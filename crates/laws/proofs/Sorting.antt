-- Lists in the strict order of a key: one more element at its place, and the elements that have a property, which cannot be refuted if
-- their keys are among finitely many and no two of them have one key.
use Rattle.std.proofs.Common.{◌≡◌, List, [], ◌∷◌, ◌⊎◌, inl, inr, refl, sym, ap, subst, ◌∙◌, map}
use Rattle.std.specs.List.{AllByRecursion, Contains}
use Rattle.std.specs.List.Sorted.{IsStrictlySortedBy}
use Rattle.std.specs.declared.cmp.Ordering.{Ordering}
use Rattle.std.specs.declared.cmp.Ordering.TheVariants.{Less, Equal, Greater}
use Rattle.std.specs.Cmp.{IsTotalOrder}
use Rattle.std.specs.Ordering.{ordering_reverse}
use Rattle.audit_rows.proofs.ForCallers.{less_than, tail_sorted}
use Rattle.outside.proofs.Members.{in_cons, in_head, in_none, in_tail}
use Rattle.laws.proofs.Refuted.{holds_or_not}

module _ {X K : Type 0} (key : X → K) (cmp : K → K → Ordering) where
  all_places : (P : K → Type 0) (xs : List X) → ((x : X) → Contains xs x → P (key x)) → AllByRecursion P (map key xs)
  all_places P [] h = tt
  all_places P (x ∷ xs) h = (h x (in_head x xs), all_places P xs (λ y i. h y (in_tail x xs y i)))

  -- an element before all of a list in order
  put_first : (x : X) (xs : List X) → ((y : X) → Contains xs y → cmp (key x) (key y) ≡ Less) → IsStrictlySortedBy cmp (map key xs)
      → IsStrictlySortedBy cmp (map key (x ∷ xs))
  unfolding IsStrictlySortedBy
  put_first x xs h s = (all_places (λ k. cmp (key x) k ≡ Less) xs h, s)

  none_sorted : IsStrictlySortedBy cmp (map key [])
  unfolding IsStrictlySortedBy
  none_sorted = tt

  -- the elements that have a property, in order
  pub record AreSorted (Property : X → Type 0) : Type 0 where
    pub items : List X
    pub ordered : IsStrictlySortedBy cmp (map key items)
    pub sound : (x : X) → Contains items x → Property x
    pub complete : (x : X) → Property x → Contains items x

  pub sorted_none : AreSorted (λ x. ⊥)
  sorted_none = record { items = []; ordered = none_sorted; sound = λ x i. in_none x i; complete = λ x h. absurd h }

  module _ (total : IsTotalOrder cmp) where
    not_before_itself : {G : Type 0} (a : K) → cmp a a ≡ Less → G
    not_before_itself a less = let e : Less ≡ ordering_reverse Less = sym less ∙ (total.antisymm a a ∙ ap ordering_reverse less) in absurd (cc)

    -- Two elements of a list in order that have one key are one.
    pub one_at_key : (xs : List X) (a b : X) → IsStrictlySortedBy cmp (map key xs) → Contains xs a → Contains xs b → key a ≡ key b → a ≡ b
    one_at_key [] a b s i j e = in_none a i
    one_at_key (x ∷ xs) a b s i j e =
        elim (in_cons x xs a i) [
          | inl is_a ↦ elim (in_cons x xs b j) [
            | inl is_b ↦ sym is_a ∙ is_b
            | inr later ↦ not_before_itself (key b) (subst (λ (k : K). cmp k (key b) ≡ Less) (ap key is_a ∙ e) (less_than key cmp x xs b s later))
          ]
          | inr later ↦ elim (in_cons x xs b j) [
            | inl is_b ↦ not_before_itself (key a) (subst (λ (k : K). cmp k (key a) ≡ Less) (ap key is_b ∙ sym e) (less_than key cmp x xs a s later))
            | inr after ↦ one_at_key xs a b (tail_sorted key cmp x xs s) later after e
          ]
        ]

    module _ (exact : (a b : K) → cmp a b ≡ Equal → a ≡ b) where
      -- an element among others, at its place
      pub one_more : (new : X) (items : List X) → IsStrictlySortedBy cmp (map key items) → ((other : X) → Contains items other → key new ≡ key other → new ≡ other)
          → AreSorted (λ z. (new ≡ z) ⊎ Contains items z)
      one_more new [] s one = record {
        items = new ∷ [];
        ordered = put_first new [] (λ y i. in_none y i) s;
        sound = λ z i. in_cons new [] z i;
        complete = λ z h. elim h [ inl e ↦ subst (Contains (new ∷ [])) e (in_head new []) | inr i ↦ in_none z i ];
      }
      one_more new (x ∷ xs) s one =
          by_order (one_more new xs (tail_sorted key cmp x xs s) (λ other i. one other (in_tail x xs other i))) (cmp (key new) (key x)) refl
        where
          before : cmp (key new) (key x) ≡ Less → AreSorted (λ z. (new ≡ z) ⊎ Contains (x ∷ xs) z)
          before e = record {
            items = new ∷ x ∷ xs;
            ordered = put_first new (x ∷ xs) (λ y i. elim (in_cons x xs y i) [
              | inl is ↦ subst (λ (z : X). cmp (key new) (key z) ≡ Less) is e
              | inr later ↦ total.trans (key new) (key x) (key y) e (less_than key cmp x xs y s later)
            ]) s;
            sound = λ z i. in_cons new (x ∷ xs) z i;
            complete = λ z h. elim h [ inl is ↦ subst (Contains (new ∷ x ∷ xs)) is (in_head new (x ∷ xs)) | inr i ↦ in_tail new (x ∷ xs) z i ];
          }

          there : cmp (key new) (key x) ≡ Equal → AreSorted (λ z. (new ≡ z) ⊎ Contains (x ∷ xs) z)
          there e =
              let is : new ≡ x = one x (in_head x xs) (exact (key new) (key x) e) in
              record {
                items = x ∷ xs;
                ordered = s;
                sound = λ z i. inr i;
                complete = λ z h. elim h [ inl same ↦ subst (Contains (x ∷ xs)) (sym is ∙ same) (in_head x xs) | inr i ↦ i ];
              }

          behind : AreSorted (λ z. (new ≡ z) ⊎ Contains xs z) → cmp (key new) (key x) ≡ Greater → AreSorted (λ z. (new ≡ z) ⊎ Contains (x ∷ xs) z)
          behind rest e =
              let less : cmp (key x) (key new) ≡ Less = total.antisymm (key x) (key new) ∙ ap ordering_reverse e in
              record {
                items = x ∷ rest.items;
                ordered = put_first x rest.items (λ y i. elim (rest.sound y i) [
                  | inl is ↦ subst (λ (z : X). cmp (key x) (key z) ≡ Less) is less
                  | inr later ↦ less_than key cmp x xs y s later
                ]) rest.ordered;
                sound = λ z i. elim (in_cons x rest.items z i) [
                  | inl is ↦ inr (subst (Contains (x ∷ xs)) is (in_head x xs))
                  | inr j ↦ elim (rest.sound z j) [ inl same ↦ inl same | inr later ↦ inr (in_tail x xs z later) ]
                ];
                complete = λ z h. elim h [
                  | inl same ↦ in_tail x rest.items z (rest.complete z (inl same))
                  | inr i ↦ elim (in_cons x xs z i) [
                    | inl is ↦ subst (Contains (x ∷ rest.items)) is (in_head x rest.items)
                    | inr later ↦ in_tail x rest.items z (rest.complete z (inr later))
                  ]
                ];
              }

          by_order : AreSorted (λ z. (new ≡ z) ⊎ Contains xs z) → (o : Ordering) → cmp (key new) (key x) ≡ o → AreSorted (λ z. (new ≡ z) ⊎ Contains (x ∷ xs) z)
          by_order rest Less e = before e
          by_order rest Equal e = there e
          by_order rest Greater e = behind rest e

      module _ (Property : X → Type 0) (one : (a b : X) → Property a → Property b → key a ≡ key b → a ≡ b) where
        -- those whose keys are among these
        abbrev AreOf : List K → Type 0
        AreOf keys = AreSorted (λ x. Property x × Contains keys (key x))

        with_one : (k : K) (keys : List K) (rest : AreOf keys) (new : X) → Property new → key new ≡ k → AreOf (k ∷ keys)
        with_one k keys rest new has is =
            let all = one_more new rest.items rest.ordered (λ other i. one new other has (rest.sound other i).0) in
            record {
              items = all.items;
              ordered = all.ordered;
              sound = λ z i. elim (all.sound z i) [
                | inl same ↦ (subst Property same has, subst (Contains (k ∷ keys)) (sym is ∙ ap key same) (in_head k keys))
                | inr j ↦ (let old = rest.sound z j in (old.0, in_tail k keys (key z) old.1))
              ];
              complete = λ z h. elim (in_cons k keys (key z) h.1) [
                | inl same ↦ all.complete z (inl (one new z has h.0 (is ∙ same)))
                | inr later ↦ all.complete z (inr (rest.complete z (h.0, later)))
              ];
            }

        without : (k : K) (keys : List K) → AreOf keys → ¬ ((x : X) × (Property x × (key x ≡ k))) → AreOf (k ∷ keys)
        without k keys rest none = record {
          items = rest.items;
          ordered = rest.ordered;
          sound = λ z i. let old = rest.sound z i in (old.0, in_tail k keys (key z) old.1);
          complete = λ z h. elim (in_cons k keys (key z) h.1) [
            | inl same ↦ absurd (none (z, (h.0, sym same)))
            | inr later ↦ rest.complete z (h.0, later)
          ];
        }

        by_keys : (keys : List K) → ¬ ¬ AreOf keys
        by_keys [] none = none (record { items = []; ordered = none_sorted; sound = λ x i. in_none x i; complete = λ x h. in_none (key x) h.1 })
        by_keys (k ∷ keys) none =
            by_keys keys (λ rest. holds_or_not ((x : X) × (Property x × (key x ≡ k))) (λ either. elim either [
              | inl here ↦ none (with_one k keys rest here.0 here.1.0 here.1.1)
              | inr not ↦ none (without k keys rest not)
            ]))

        -- All elements that have the property make a list in order, if their keys are among these.
        pub some_sorted : (keys : List K) → ((x : X) → Property x → Contains keys (key x)) → ¬ ¬ AreSorted Property
        some_sorted keys among none = by_keys keys (λ all. none (record {
          items = all.items;
          ordered = all.ordered;
          sound = λ x i. (all.sound x i).0;
          complete = λ x h. all.complete x (h, among x h);
        }))
