-- Legs in the order of their times, and the search among them.
use Rattle.std.proofs.Common.{◌≡◌, ℕ, zero, suc, ◌-◌, ◌<◌, ◌≤◌, List, [], ◌∷◌, ◌++◌, length, get_or, Some, None, IfSome, true, false, ◌⊎◌, inl, inr, refl, arith, subst, sym}
use Rattle.std.specs.Prelude.{Option}
use Rattle.std.proofs.lemmas.Bool.Decides.{nat_tests}
use Rattle.std.proofs.lemmas.List.Quantifiers.{all_pairs_push}
use Rattle.std.proofs.lemmas.List.Elements.{All-append}
use Rattle.std.specs.List.{All, last_or}
use Rattle.std.specs.List.Sorted.{IsNonDecreasingBy, IsPartitionPoint}
use Rattle.motion.specs.declared.leg.Leg.{Leg}
use Rattle.motion.specs.Inner.LegOrder.{AreLegs}
use Rattle.motion.specs.TickStates.{IsLeg, holds, state_at, state_on}
use Rattle.motion.proofs.LastPassing.{filter_none, last_passing, last_or-at}

pub begin_in_order : (legs : List Leg) → AreLegs legs → IsNonDecreasingBy (λ leg. leg.t1) legs
begin_in_order legs h i j d le lt =
    elim (same_or_before i j le) [
      | inl same ↦ subst (λ (k : ℕ). (get_or legs i d).t1 ≤ (get_or legs k d).t1) same (omega arith)
      | inr before ↦ (let lasts = (h.each i d (omega arith)).lasts in let next = h.ordered i j d before lt in omega arith)
    ]
  where
    same_or_before : (i j : ℕ) → i ≤ j → (i ≡ j) ⊎ (i < j)
    same_or_before i j le = grind arith

not_begun : (time : ℕ) (leg : Leg) → time < leg.t1 → holds time leg ≡ false
not_begun time leg h = grind (arith, nat_tests)

over : (time : ℕ) (leg : Leg) → leg.t2 < time → holds time leg ≡ false
over time leg h = grind (arith, nat_tests)

not_held : (time : ℕ) (leg : Leg) → holds time leg ≡ false → leg.t1 ≤ time → leg.t2 < time
not_held time leg h begun = grind (arith, nat_tests)

abbrev pub IsBegun : List Leg → ℕ → ℕ → Type 0
IsBegun legs time i = IsPartitionPoint (λ leg. leg.t1 ≤ time) (λ leg. time < leg.t1) legs i

-- None after the last that has begun holds the time.
later_not : (legs : List Leg) (time i : ℕ) → IsBegun legs time i → (k : ℕ) (d : Leg) → i ≤ k → k < length legs → holds time (get_or legs k d) ≡ false
later_not legs time i parts k d le lt = not_begun time (get_or legs k d) (parts.1 k d le lt)

pub none_begun : (legs : List Leg) (time i : ℕ) → IsBegun legs time i → i ≡ 0 → All (λ leg. holds time leg ≡ false) legs
none_begun legs time i parts e k d lt = later_not legs time i parts k d (omega arith) lt

-- If the last that has begun does not hold it, none does.
pub none_holds : (legs : List Leg) (time i : ℕ) (d : Leg) → AreLegs legs → IsBegun legs time i → i ≤ length legs → 0 < i
    → holds time (get_or legs (i - 1) d) ≡ false → All (λ leg. holds time leg ≡ false) legs
none_holds legs time i d h parts bound some not k e lt =
    let d-over : (get_or legs (i - 1) d).t2 < time = not_held time (get_or legs (i - 1) d) not (parts.0 (i - 1) d (omega arith) (omega arith)) in
    elim (cases k (i - 1)) [
      | inl before ↦ (let one : (get_or legs k d).t2 ≤ (get_or legs (i - 1) d).t1 = h.ordered k (i - 1) d before (omega arith) in
          let lasts = (h.each (i - 1) d (omega arith)).lasts in
          subst (λ (leg : Leg). holds time leg ≡ false) (get_or-default legs k d e lt) (over time (get_or legs k d) (omega arith)))
      | inr (inl same) ↦ subst (λ (leg : Leg). holds time leg ≡ false) (get_or-default legs k d e lt) (subst (λ (j : ℕ). holds time (get_or legs j d) ≡ false) (sym same) not)
      | inr (inr after) ↦ later_not legs time i parts k e (omega arith) lt
    ]
  where
    cases : (k j : ℕ) → (k < j) ⊎ ((k ≡ j) ⊎ (j < k))
    cases k j = grind arith

    get_or-default : (xs : List Leg) (k : ℕ) (d e : Leg) → k < length xs → get_or xs k d ≡ get_or xs k e
    get_or-default [] k d e lt = absurd (omega arith)
    get_or-default (x ∷ xs) zero d e lt = refl
    get_or-default (x ∷ xs) (suc k) d e lt = get_or-default xs k d e (omega arith)

pub no_state : (legs : List Leg) (time : ℕ) → All (λ leg. holds time leg ≡ false) legs → None ≡ state_at time legs
unfolding state_at
no_state legs time none = rw (filter_none (holds time) legs none) refl

pub state_here : (legs : List Leg) (time i : ℕ) (d : Leg) → IsBegun legs time i → i ≤ length legs → 0 < i → holds time (get_or legs (i - 1) d) ≡ true
    → Some (state_on time (get_or legs (i - 1) d)) ≡ state_at time legs
unfolding state_at
state_here legs time i d parts bound some held =
    rw (last_passing (holds time) legs (i - 1) d (omega arith) held (λ k e h lt. later_not legs time i parts k e (omega arith) lt)) refl

-- A leg that does not begin before the last one is over does not begin before any is.
after_all : (legs : List Leg) (leg : Leg) → AreLegs legs → IfSome (last_or None legs) (λ last. last.t2 ≤ leg.t1)
    → (k : ℕ) (d : Leg) → k < length legs → (get_or legs k d).t2 ≤ leg.t1
after_all [] leg h after k d lt = absurd (omega arith)
after_all (x ∷ xs) leg h after k d lt =
    let last : (get_or (x ∷ xs) (length xs) d).t2 ≤ leg.t1 = subst (λ (o : Option Leg). IfSome o (λ last. last.t2 ≤ leg.t1)) (last_or-at None x xs d) after in
    elim (cases k (length xs) (omega arith)) [
      | inl same ↦ subst (λ (j : ℕ). (get_or (x ∷ xs) j d).t2 ≤ leg.t1) (sym same) last
      | inr before ↦ (let next : (get_or (x ∷ xs) k d).t2 ≤ (get_or (x ∷ xs) (length xs) d).t1 = h.ordered k (length xs) d before (omega arith) in
          let lasts = (h.each (length xs) d (omega arith)).lasts in
          omega arith)
    ]
  where
    cases : (k j : ℕ) → k ≤ j → (k ≡ j) ⊎ (k < j)
    cases k j le = grind arith

pub one_more : (legs : List Leg) (leg : Leg) → AreLegs legs → IsLeg leg → IfSome (last_or None legs) (λ last. last.t2 ≤ leg.t1) → AreLegs (legs ++ leg ∷ [])
one_more legs leg h is after = record {
  each = All-append IsLeg legs (leg ∷ []) h.each (single leg is);
  ordered = all_pairs_push (λ earlier later. earlier.t2 ≤ later.t1) legs leg h.ordered (after_all legs leg h after);
}
  where
    single : (leg : Leg) → IsLeg leg → All IsLeg (leg ∷ [])
    single leg is zero d lt = is
    single leg is (suc k) d lt = absurd (omega arith)
