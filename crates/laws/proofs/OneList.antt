-- There is one canonical list.
use Rattle.std.proofs.Common.{ℕ, zero, suc, ◌≡◌, ◌∙◌, ◌≤◌, ◌<◌, inl, inr, List, [], ◌∷◌, ◌++◌, length, take, refl, arith, ap, ap₂, sym, subst}
use Rattle.std.specs.Prelude.{slice_get, IsSomeAnd, Option, Some, None}
use Rattle.std.specs.List.{AllPairs}
use Rattle.std.proofs.lemmas.Bool.{cases_lt}
use Rattle.std.proofs.lemmas.Option.{get_or_from_slice_get, slice_get_within}
use Rattle.std.proofs.Math.Seq.{take-length}
use Rattle.closest_approach.specs.declared.nearest.Moment.{Moment}
use Rattle.encounters.specs.declared.pair_step.PairStep.{PairStep}
use Rattle.lattice.specs.Grids.{plans_of}
use Rattle.meetings.specs.Traces.{step_at}
use Rattle.plan_situations.specs.Domains.{moment_of}
use Rattle.plan_situations.specs.FailingPlans.{Some_}
use Rattle.plan_situations.specs.LeastPlans.{numbered}
use Rattle.plan_situations.specs.Situations.{own_at, target_at}
use Rattle.plan_situations.specs.declared.situation.Situation.{Situation}
use Rattle.plan_situations.specs.declared.situation.Target.{Target}
use Rattle.refutation_search.specs.CanonicalLists.{IsCanonical, IsCanonicalFor, IsEarlier, IsFirstGood, TellsMoment}
use Rattle.refutations.specs.RightLists.{ends_from, IsEntry}
use Rattle.refutations.specs.declared.entry.Reason.{Reason}
use Rattle.refutations.specs.declared.entry.Reason.TheVariants.{Domain, Rule}
use Rattle.refutations.specs.declared.entry.WhyEntry.{WhyEntry}

-- what is there, and what holds of it
pub record Found {X : Type 0} (o : Option X) (P : X → Type 0) : Type 0 where
  pub value : X
  pub is : o ≡ Some value
  pub holds : P value

found : {X : Type 0} (o : Option X) (P : X → Type 0) → IsSomeAnd o P → Found o P
found None P h = absurd h
found (Some x) P h = record { value = x; is = refl; holds = h }

take_one_more : {X : Type 0} (xs : List X) (k : ℕ) (x : X) → slice_get xs k ≡ Some x → take (suc k) xs ≡ take k xs ++ x ∷ []
take_one_more [] k x is = cc is
take_one_more (y ∷ ys) zero x is = let same : y ≡ x = cc is in ap (λ (z : _). z ∷ []) same
take_one_more (y ∷ ys) (suc k) x is = ap (λ (zs : _). y ∷ zs) (take_one_more ys k x is)

module _ (s : Situation) (ascending : AllPairs (λ (a b : Target). a.mmsi < b.mmsi) s.targets) where
  -- ---- an MMSI is one target's

  before : (i j : ℕ) (a b : Target) → slice_get s.targets i ≡ Some a → slice_get s.targets j ≡ Some b → i < j → a.mmsi < b.mmsi
  before i j a b at-i at-j lt =
      let h = ascending i j a lt (slice_get_within s.targets j b at-j) in
      rw (get_or_from_slice_get s.targets i a a at-i, get_or_from_slice_get s.targets j b a at-j) at h

  one_target : (i j : ℕ) (a b : Target) → slice_get s.targets i ≡ Some a → slice_get s.targets j ≡ Some b → a.mmsi ≡ b.mmsi → a ≡ b
  one_target i j a b at-i at-j same = elim (cases_lt i j) [
    | inl lt ↦ (let less = before i j a b at-i at-j lt in absurd (omega arith))
    | inr ge ↦ elim (cases_lt j i) [
      | inl lt ↦ (let less = before j i b a at-j at-i lt in absurd (omega arith))
      | inr le ↦ (let e : i ≡ j = omega arith in cc (e, at-i, at-j))
    ]
  ]

  -- ---- an entry has only one moment

  told_by : (plan : List ℕ) (target : Target) (step : ℕ) (m n : Moment) → TellsMoment s plan target (Domain step m) → TellsMoment s plan target (Domain step n) → m ≡ n
  told_by plan target step m n a b =
      let o = step_at (own_at s plan) (target_at s target) step in
      let x = found o (λ (pair : PairStep). m ≡ moment_of s target pair) a in
      let y = found o (λ (pair : PairStep). n ≡ moment_of s target pair) b in
      let same : x.value ≡ y.value = cc (x.is, y.is) in
      x.holds ∙ (ap (moment_of s target) same ∙ sym y.holds)

  one_moment : (plan : List ℕ) (mmsi step : ℕ) (m n : Moment) → Some_ (λ target. (target.mmsi ≡ mmsi) × TellsMoment s plan target (Domain step m)) s.targets
      → Some_ (λ target. (target.mmsi ≡ mmsi) × TellsMoment s plan target (Domain step n)) s.targets → m ≡ n
  one_moment plan mmsi step m n a b =
      let x = found (slice_get s.targets a.0) (λ (target : Target). (target.mmsi ≡ mmsi) × TellsMoment s plan target (Domain step m)) a.1 in
      let y = found (slice_get s.targets b.0) (λ (target : Target). (target.mmsi ≡ mmsi) × TellsMoment s plan target (Domain step n)) b.1 in
      let same : x.value ≡ y.value = one_target a.0 b.0 x.value y.value x.is y.is (x.holds.0 ∙ sym y.holds.0) in
      told_by plan x.value step m n x.holds.1 (subst (λ (t : Target). TellsMoment s plan t (Domain step n)) (sym same) y.holds.1)

  -- ---- one reason comes before all others

  one_reason : (plan : List ℕ) (mmsi : ℕ) (r q : Reason) → (¬ IsEarlier r q) → (¬ IsEarlier q r)
      → Some_ (λ target. (target.mmsi ≡ mmsi) × TellsMoment s plan target r) s.targets
      → Some_ (λ target. (target.mmsi ≡ mmsi) × TellsMoment s plan target q) s.targets → r ≡ q
  one_reason plan mmsi (Domain step m) (Domain other n) not-r not-q a b = elim (cases_lt step other) [
    | inl lt ↦ absurd (not-r lt)
    | inr ge ↦ elim (cases_lt other step) [
      | inl lt ↦ absurd (not-q lt)
      | inr le ↦ (let same : step ≡ other = omega arith in
          let b' = subst (λ (k : ℕ). Some_ (λ target. (target.mmsi ≡ mmsi) × TellsMoment s plan target (Domain k n)) s.targets) (sym same) b in
          ap₂ Domain same (one_moment plan mmsi step m n a b'))
    ]
  ]
  one_reason plan mmsi (Domain step m) (Rule index other) not-r not-q a b = absurd (not-r tt)
  one_reason plan mmsi (Rule index step) (Domain other n) not-r not-q a b = absurd (not-q tt)
  one_reason plan mmsi (Rule index step) (Rule other_index other) not-r not-q a b = elim (cases_lt step other) [
    | inl lt ↦ absurd (not-r (inl lt))
    | inr ge ↦ elim (cases_lt other step) [
      | inl lt ↦ absurd (not-q (inl lt))
      | inr le ↦ (let same : step ≡ other = omega arith in elim (cases_lt index other_index) [
        | inl lt ↦ absurd (not-r (inr (same, lt)))
        | inr up ↦ elim (cases_lt other_index index) [
          | inl lt ↦ absurd (not-q (inr (sym same, lt)))
          | inr down ↦ (let same-index : index ≡ other_index = omega arith in ap₂ Rule same-index same)
        ]
      ])
    ]
  ]

  -- ---- one entry of a prefix is the first good one

  parts_are : (e f : WhyEntry) → e.prefix ≡ f.prefix → e.target ≡ f.target → e.reason ≡ f.reason → e ≡ f
  parts_are e f prefix target reason =
      let made : List ℕ → ℕ → Reason → WhyEntry = λ p t r. record { prefix = p; target = t; reason = r } in
      ap (λ (p : List ℕ). made p e.target e.reason) prefix
      ∙ (ap (λ (t : ℕ). made f.prefix t e.reason) target
      ∙ ap (λ (r : Reason). made f.prefix f.target r) reason)

  one_first : (e f : WhyEntry) → e.prefix ≡ f.prefix → IsFirstGood s e → IsFirstGood s f → e ≡ f
  one_first e f prefix a b =
      let not-f = a.first f (sym prefix) b.good in
      let not-e = b.first e prefix a.good in
      elim (cases_lt e.target f.target) [
        | inl lt ↦ absurd (not-e (inl lt))
        | inr ge ↦ elim (cases_lt f.target e.target) [
          | inl lt ↦ absurd (not-f (inl lt))
          | inr le ↦ (let target : e.target ≡ f.target = omega arith in
              let moment = subst (λ (m : ℕ). Some_ (λ t. (t.mmsi ≡ m) × TellsMoment s f.prefix t f.reason) s.targets) (sym target) b.moment in
              let moment' = subst (λ (p : List ℕ). Some_ (λ t. (t.mmsi ≡ e.target) × TellsMoment s p t f.reason) s.targets) (sym prefix) moment in
              let reason = one_reason e.prefix e.target e.reason f.reason (λ early. not-e (inr (target, early))) (λ early. not-f (inr (sym target, early))) a.moment moment' in
              parts_are e f prefix target reason)
        ]
      ]

  -- ---- one entry is the canonical one of a plan

  not_shorter : (plan : List ℕ) (e f : WhyEntry) → IsEntry s e → IsCanonicalFor s plan e → IsCanonicalFor s plan f → length e.prefix < length f.prefix → ⊥
  not_shorter plan e f is a b lt = b.shortest e is.some lt a.prefix a.first.good

  one_canonical : (plan : List ℕ) (e f : WhyEntry) → IsEntry s e → IsEntry s f → IsCanonicalFor s plan e → IsCanonicalFor s plan f → e ≡ f
  one_canonical plan e f is-e is-f a b = elim (cases_lt (length e.prefix) (length f.prefix)) [
    | inl lt ↦ absurd (not_shorter plan e f is-e a b lt)
    | inr ge ↦ elim (cases_lt (length f.prefix) (length e.prefix)) [
      | inl lt ↦ absurd (not_shorter plan f e is-f b a lt)
      | inr le ↦ (let same : length e.prefix ≡ length f.prefix = omega arith in
          one_first e f (a.prefix ∙ (ap (λ (k : ℕ). take k plan) same ∙ sym b.prefix)) a.first b.first)
    ]
  ]

  -- ---- the lists

  same_front : (xs ys : List WhyEntry) → IsCanonical s xs → IsCanonical s ys → (k : ℕ) → k ≤ length xs → k ≤ length ys → take k xs ≡ take k ys
  same_front xs ys a b zero le-x le-y = refl
  same_front xs ys a b (suc k) le-x le-y =
      let front = same_front xs ys a b k (omega arith) (omega arith) in
      let x = found (slice_get xs k) (λ (entry : WhyEntry). IsEntry s entry × IsCanonicalFor s (numbered s (ends_from s 0 (take k xs))) entry) (a.each k (omega arith)) in
      let y = found (slice_get ys k) (λ (entry : WhyEntry). IsEntry s entry × IsCanonicalFor s (numbered s (ends_from s 0 (take k ys))) entry) (b.each k (omega arith)) in
      let of-y = subst (λ (zs : List WhyEntry). IsCanonicalFor s (numbered s (ends_from s 0 zs)) y.value) (sym front) y.holds.1 in
      let same = one_canonical (numbered s (ends_from s 0 (take k xs))) x.value y.value x.holds.0 y.holds.0 x.holds.1 of-y in
      take_one_more xs k x.value x.is
      ∙ (ap₂ (λ (zs : List WhyEntry) (z : WhyEntry). zs ++ z ∷ []) front same
      ∙ sym (take_one_more ys k y.value y.is))

  not_longer : (xs ys : List WhyEntry) → IsCanonical s xs → IsCanonical s ys → length xs < length ys → ⊥
  not_longer xs ys a b lt =
      let front : take (length xs) xs ≡ take (length xs) ys = same_front xs ys a b (length xs) (omega arith) (omega arith) in
      let whole : xs ≡ take (length xs) ys = sym (take-length xs) ∙ front in
      let ends : ends_from s 0 (take (length xs) ys) ≡ plans_of s.lattice = ap (ends_from s 0) (sym whole) ∙ a.whole in
      let less = b.uncovered (length xs) lt in
      absurd (omega arith)

  pub one_list : (xs ys : List WhyEntry) → IsCanonical s xs → IsCanonical s ys → xs ≡ ys
  one_list xs ys a b = elim (cases_lt (length xs) (length ys)) [
    | inl lt ↦ absurd (not_longer xs ys a b lt)
    | inr ge ↦ elim (cases_lt (length ys) (length xs)) [
      | inl lt ↦ absurd (not_longer ys xs b a lt)
      | inr le ↦ (let same : length xs ≡ length ys = omega arith in
          let front = same_front xs ys a b (length xs) (omega arith) (omega arith) in
          sym (take-length xs) ∙ (front ∙ (ap (λ (k : ℕ). take k ys) same ∙ take-length ys)))
    ]
  ]
