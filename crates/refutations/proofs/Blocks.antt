-- Blocks of plans that follow one another.
use Rattle.std.proofs.Common.{ℕ, zero, suc, add-one, ◌≡◌, ◌∙◌, ◌+◌, ◌-◌, ◌^◌, ◌≤◌, ◌<◌, inl, inr, List, [], ◌∷◌, length, take, get_or, refl, arith, ap, sym, subst}
use Rattle.std.specs.Prelude.{slice_get, All, IsSomeAnd, ◌↔◌}
use Rattle.std.specs.Int.Digits.{AllBelowBase}
use Rattle.std.proofs.lemmas.Bool.{cases_lt}
use Rattle.std.proofs.lemmas.List.Elements.{All-get_or}
use Rattle.std.proofs.Math.Seq.{take-length}
use Rattle.lattice.specs.Grids.{choices_of, plans_of}
use Rattle.lattice.specs.PlanNumbers.{number_of, IsPlan}
use Rattle.lattice.proofs.Digits.{below_plan_of, length-plan_of, number_plan_of}
use Rattle.plan_situations.specs.FailingPlans.{Fails, FailsBy, Some_}
use Rattle.plan_situations.specs.LeastPlans.{AllFail, numbered}
use Rattle.plan_situations.specs.Prefixes.{AreOneBlock, IsInBlock, reached}
use Rattle.plan_situations.specs.Reasons.{HasReason}
use Rattle.plan_situations.specs.declared.situation.Situation.{Situation}
use Rattle.refutations.specs.GoodEntries.{IsGood}
use Rattle.refutations.specs.RightLists.{behind, ends_from, first_of, IsEntry, IsRight, IsSoundAt}
use Rattle.refutations.specs.declared.entry.WhyEntry.{WhyEntry}
use Rattle.refutations.proofs.HeldReasons.{good_reason}

-- what holds of the element with an index

pub there : {X : Type 0} (P : X → Type 0) (xs : List X) (k : ℕ) → IsSomeAnd (slice_get xs k) P → (k < length xs) × ((d : X) → P (get_or xs k d))
there P [] k h = absurd h
there P (x ∷ xs) zero h = (omega arith, λ d. h)
there P (x ∷ xs) (suc k) h = let rest = there P xs k h in (omega (arith, rest.0), rest.1)

pub here : {X : Type 0} (P : X → Type 0) (xs : List X) (k : ℕ) (d : X) → k < length xs → P (get_or xs k d) → IsSomeAnd (slice_get xs k) P
here P [] k d lt h = absurd (omega arith)
here P (x ∷ xs) zero d lt h = h
here P (x ∷ xs) (suc k) d lt h = here P xs k d (omega arith) h

-- A plan lies in the block of an entry that is good.
abbrev pub IsCoveredBy : Situation → ℕ → WhyEntry → Type 0
IsCoveredBy s number entry = IsGood s entry × (first_of s entry ≤ number) × (number < behind s entry)

module _ (s : Situation) where
  pub ends_more : (from : ℕ) (xs : List WhyEntry) (k : ℕ) (d : WhyEntry) → k < length xs → ends_from s from (take (suc k) xs) ≡ behind s (get_or xs k d)
  ends_more from [] k d lt = absurd (omega arith)
  ends_more from (x ∷ xs) zero d lt = refl
  ends_more from (x ∷ xs) (suc k) d lt = ends_more (behind s x) xs k d (omega arith)

  covers : (xs : List WhyEntry) (d : WhyEntry) (number m : ℕ) → ((k : ℕ) → k < m → IsSoundAt s xs k) → number < ends_from s 0 (take m xs)
      → Some_ (IsCoveredBy s number) xs
  covers xs d number zero each lt = absurd (omega arith)
  covers xs d number (suc m) each lt = elim (cases_lt number (ends_from s 0 (take m xs))) [
    | inl before ↦ covers xs d number m (λ k less. each k (omega arith)) before
    | inr from ↦ (let at = there (λ (entry : WhyEntry). IsGood s entry × (first_of s entry ≡ ends_from s 0 (take m xs))) xs m (each m (omega arith)) in
        let end = ends_more 0 xs m d at.0 in
        let facts = at.1 d in
        (m, here (IsCoveredBy s number) xs m d at.0 (facts.0, omega (arith, facts.1), omega (arith, end))))
  ]

  -- A list that is right covers all plans.
  right_covers : (xs : List WhyEntry) (d : WhyEntry) → IsRight s xs → (number : ℕ) → number < choices_of s.lattice ^ s.lattice.legs → Some_ (IsCoveredBy s number) xs
  right_covers xs d h number lt = covers xs d number (length xs) h.each (let all = take-length xs in rw all (omega (arith, h.whole)))

  module _ (some : 0 < choices_of s.lattice)
      (blocks : (prefix : List ℕ) → AllBelowBase (choices_of s.lattice) prefix → length prefix ≤ s.lattice.legs → AreOneBlock s prefix)
      (reasons : (plan : List ℕ) (last : ℕ) → FailsBy s last plan ↔ Some_ (HasReason s plan last) s.targets) where
    covered_fails : (entry : WhyEntry) (number : ℕ) → number < plans_of s.lattice → IsEntry s entry → IsCoveredBy s number entry → Fails s (numbered s number)
    covered_fails entry number lt is h =
        let block = blocks entry.prefix is.below is.few in
        let plan : IsPlan (choices_of s.lattice) s.lattice.legs (numbered s number) = record {
          count = length-plan_of (choices_of s.lattice) s.lattice.legs number;
          below = below_plan_of (choices_of s.lattice) s.lattice.legs number some;
        } in
        let e : number_of (choices_of s.lattice) (numbered s number) ≡ number = number_plan_of (choices_of s.lattice) s.lattice.legs number some lt in
        let inside : IsInBlock (choices_of s.lattice) (s.lattice.legs - length entry.prefix) (number_of (choices_of s.lattice) entry.prefix) (number_of (choices_of s.lattice) (numbered s number)) =
        subst (IsInBlock (choices_of s.lattice) (s.lattice.legs - length entry.prefix) (number_of (choices_of s.lattice) entry.prefix)) (sym e) (record { from = h.1; to = h.2 }) in
        block.fail ((reasons entry.prefix (reached s (length entry.prefix))).1 (good_reason s entry h.0)) (numbered s number) plan ((block.block (numbered s number) plan).1 inside)

    -- If there is a right list, every plan fails.
    pub right_refutes : (xs : List WhyEntry) → All (IsEntry s) xs → IsRight s xs → AllFail s
    right_refutes [] all h number lt = absurd (let none = h.whole in omega arith)
    right_refutes (x ∷ xs) all h number lt =
        let found = right_covers (x ∷ xs) x h number lt in
        let at = there (IsCoveredBy s number) (x ∷ xs) found.0 found.1 in
        covered_fails (get_or (x ∷ xs) found.0 x) number lt (All-get_or (IsEntry s) (x ∷ xs) found.0 x at.0 all) (at.1 x)

-- ---- what a check returns

module _ (s : Situation) where
  -- one more sound entry
  pub sound_here : (xs : List WhyEntry) (k begin : ℕ) (entry : WhyEntry) → k < length xs → entry ≡ get_or xs k entry → begin ≡ ends_from s 0 (take k xs)
      → IsGood s entry → first_of s entry ≡ begin → IsSoundAt s xs k
  sound_here xs k begin entry lt is covered good first =
      here (λ (e : WhyEntry). IsGood s e × (first_of s e ≡ ends_from s 0 (take k xs))) xs k entry lt
      (subst (λ (e : WhyEntry). IsGood s e × (first_of s e ≡ ends_from s 0 (take k xs))) is (good, first ∙ covered))

  pub unsound_here : (xs : List WhyEntry) (k begin : ℕ) (entry : WhyEntry) → entry ≡ get_or xs k entry → begin ≡ ends_from s 0 (take k xs)
      → ¬ (IsGood s entry × (first_of s entry ≡ begin)) → ¬ IsSoundAt s xs k
  unsound_here xs k begin entry is covered none sound =
      let at = there (λ (e : WhyEntry). IsGood s e × (first_of s e ≡ ends_from s 0 (take k xs))) xs k sound in
      let facts = at.1 entry in
      none (subst (λ (e : WhyEntry). IsGood s e × (first_of s e ≡ begin)) (sym is) (facts.0, facts.1 ∙ sym covered))

  pub ends_here : (xs : List WhyEntry) (k end : ℕ) (entry : WhyEntry) → k < length xs → entry ≡ get_or xs k entry → behind s entry ≡ end
      → end ≡ ends_from s 0 (take (k + 1) xs)
  ends_here xs k end entry lt is ends =
      sym ends ∙ (ap (behind s) is ∙ (sym (ends_more s 0 xs k entry lt) ∙ ap (λ (n : ℕ). ends_from s 0 (take n xs)) (sym (add-one k))))

  pub all_sound : (xs : List WhyEntry) (k n : ℕ) → length xs ≤ k → n ≡ ends_from s 0 (take k xs) → k ≤ length xs → n ≡ ends_from s 0 xs
  all_sound xs k n from covered to =
      let e : k ≡ length xs = omega arith in covered ∙ ap (λ (i : ℕ). ends_from s 0 (take i xs)) e ∙ ap (ends_from s 0) (take-length xs)
