-- The list of the nodes that keep something, and what a copy takes over by it.
use Rattle.std.proofs.Common.{◌≡◌, ℕ, zero, suc, ◌+◌, ◌<◌, refl, sym, ◌∙◌, ap, arith, Bool, true, false, cond, List, [], ◌∷◌, ◌++◌, length, get_or, subst}
use Rattle.std.specs.List.{All, filter, range_with_len}
use Rattle.std.proofs.lemmas.Bool.{true≢false}
use Rattle.std.proofs.lemmas.List.{map-id, append-nil, get_or_default}
use Rattle.std.proofs.lemmas.List.Elements.{All-filter}
use Rattle.std.proofs.lemmas.List.FromFn.{length-range_with_len, get_or-range_with_len, filter_of_map_range_with_len_more}
use Rattle.mtl_monitor.specs.declared.node.Operator.{Operator}
use Rattle.mtl_monitor.specs.declared.node.Operator.TheVariants as op
use Rattle.mtl_monitor.specs.declared.node.ProgramNode.{ProgramNode}
use Rattle.mtl_monitor.specs.declared.node.Kept.{Kept}
use Rattle.mtl_monitor.specs.declared.node.Kept.TheVariants as kinds
use Rattle.mtl_monitor.specs.Inner.Standing.{node_at, state_at}
use Rattle.mtl_monitor.specs.Inner.Keeping.{is_keeping, keepers_among, keepers_of}
use Rattle.mtl_monitor.specs.Inner.Copying.{AgreeBut, HasRoomOf, HasShape, HaveShapes}

abbrev IsIn : List ℕ → ℕ → Type 0
IsIn xs k = (j : ℕ) × (j < length xs) × (get_or xs j 0 ≡ k)

-- What passes a test is in the filtered list.
module _ (p : ℕ → Bool) where
  IsIn-after : (x : ℕ) (xs : List ℕ) (k : ℕ) → IsIn (filter p xs) k → IsIn (filter p (x ∷ xs)) k
  IsIn-after x xs k (j, inside, is) = elim (p x) as (λ b. IsIn (cond b (x ∷ filter p xs) (filter p xs)) k) [
    | true ↦ (suc j, omega arith, is)
    | false ↦ (j, inside, is)
  ]

  IsIn-filter : (xs : List ℕ) (i : ℕ) → i < length xs → p (get_or xs i 0) ≡ true → IsIn (filter p xs) (get_or xs i 0)
  IsIn-filter [] i inside passes = absurd (omega arith)
  IsIn-filter (x ∷ xs) zero inside passes = rw passes (zero, omega arith, refl)
  IsIn-filter (x ∷ xs) (suc i) inside passes = IsIn-after x xs (get_or xs i 0) (IsIn-filter xs i (omega arith) passes)

-- A node that keeps nothing keeps the same in any state.
plain : (o : Operator) (s : Kept) → is_keeping o ≡ false → HasShape o s → s ≡ kinds.Plain
plain (op.Atom a) kinds.Plain is shape = refl
plain (op.Not a) kinds.Plain is shape = refl
plain (op.Pair kind a b) kinds.Plain is shape = refl
plain (op.Late cells from a) s is shape = absurd (true≢false is)
plain (op.Window kind width from a) s is shape = absurd (true≢false is)
plain (op.Since width lower from a b) s is shape = absurd (true≢false is)
plain (op.Until from full lower a behind b) s is shape = absurd (true≢false is)
plain (op.Atom a) (kinds.Ring d) is shape = absurd shape
plain (op.Atom a) (kinds.Window s) is shape = absurd shape
plain (op.Atom a) (kinds.Since hits bars) is shape = absurd shape
plain (op.Atom a) (kinds.Until s) is shape = absurd shape
plain (op.Not a) (kinds.Ring d) is shape = absurd shape
plain (op.Not a) (kinds.Window s) is shape = absurd shape
plain (op.Not a) (kinds.Since hits bars) is shape = absurd shape
plain (op.Not a) (kinds.Until s) is shape = absurd shape
plain (op.Pair kind a b) (kinds.Ring d) is shape = absurd shape
plain (op.Pair kind a b) (kinds.Window s) is shape = absurd shape
plain (op.Pair kind a b) (kinds.Since hits bars) is shape = absurd shape
plain (op.Pair kind a b) (kinds.Until s) is shape = absurd shape

module _ (nodes : List ProgramNode) where
  abbrev keeps : ℕ → Bool
  keeps k = is_keeping (node_at nodes k).operator

  keepers_more : (n : ℕ) → keepers_among nodes (n + 1) ≡ keepers_among nodes n ++ cond (keeps n) (n ∷ []) []
  keepers_more n = rw (map-id (range_with_len 0 (n + 1)), map-id (range_with_len 0 n)) at (filter_of_map_range_with_len_more keeps (λ x. x) 0 n n (omega arith))

  pub keepers-listed : (n : ℕ) (old new : List ℕ) → old ≡ keepers_among nodes n → keeps n ≡ true → new ≡ old ++ n ∷ [] → new ≡ keepers_among nodes (n + 1)
  keepers-listed n old new are is pushed = pushed ∙ (ap (λ l. l ++ n ∷ []) are ∙ sym (rw is at (keepers_more n)))

  pub keepers-left_out : (n : ℕ) (old : List ℕ) → old ≡ keepers_among nodes n → keeps n ≡ false → old ≡ keepers_among nodes (n + 1)
  keepers-left_out n old are is = are ∙ sym (rw is at (keepers_more n) ∙ append-nil (keepers_among nodes n))

  pub All-keepers : All (λ k. k < length nodes) (keepers_of nodes)
  All-keepers = All-filter keeps (λ k. k < length nodes) (range_with_len 0 (length nodes))
      (λ k d inside. let here : k < length nodes = omega (arith, inside, length-range_with_len 0 (length nodes)) in omega (arith, here, get_or-range_with_len 0 (length nodes) k d here))

  IsIn-keepers : (k : ℕ) → k < length nodes → keeps k ≡ true → IsIn (keepers_of nodes) k
  IsIn-keepers k inside is =
      let at : get_or (range_with_len 0 (length nodes)) k 0 ≡ k = omega (arith, get_or-range_with_len 0 (length nodes) k 0 inside) in
      let found : IsIn (keepers_of nodes) (get_or (range_with_len 0 (length nodes)) k 0) =
      IsIn-filter keeps (range_with_len 0 (length nodes)) k (omega (arith, inside, length-range_with_len 0 (length nodes))) (rw at is) in
      rw at at found

  -- Two states of one program keep the same but where a node is listed.
  pub AgreeBut-keepers : (states others : List Kept) → HaveShapes nodes states → HaveShapes nodes others → AgreeBut (keepers_of nodes) 0 states others
  AgreeBut-keepers states others shapes other_shapes k inside unlisted = by_keeping (keeps k) refl
    where
      here : k < length nodes
      here = omega (arith, inside, other_shapes.count)

      by_keeping : (b : Bool) → keeps k ≡ b → state_at states k ≡ state_at others k
      by_keeping true is = let found = IsIn-keepers k here is in absurd (unlisted found.0 (omega arith) found.1 found.2)
      by_keeping false is =
          plain (node_at nodes k).operator (state_at states k) is (shapes.each k here) ∙ sym (plain (node_at nodes k).operator (state_at others k) is (other_shapes.each k here))

pub HasRoomOf-read : (states others : List Kept) (k : ℕ) (s r : Kept) → k < length states → k < length others → r ≡ get_or others k r → HasRoomOf (state_at states k) (state_at others k)
    → HasRoomOf (get_or states k s) r
HasRoomOf-read states others k s r inside within is room =
    let her : r ≡ state_at others k = is ∙ get_or_default others k r kinds.Plain within in
    rw (get_or_default states k s kinds.Plain inside) (subst (λ (t : Kept). HasRoomOf (state_at states k) t) (sym her) room)
