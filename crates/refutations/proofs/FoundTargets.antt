-- The target with an MMSI, among targets in the order of their MMSIs.
use Rattle.std.proofs.Common.{ℕ, ◌≡◌, ◌≢◌, ◌∙◌, ◌+◌, ◌≤◌, ◌<◌, inl, inr, List, [], ◌∷◌, length, get_or, arith, ap, sym, subst}
use Rattle.std.specs.Prelude.{AllPairs, ◌↔◌}
use Rattle.std.proofs.lemmas.Bool.{cases_lt}
use Rattle.std.proofs.lemmas.List.{get_or_default}
use Rattle.plan_situations.specs.FailingPlans.{Some_}
use Rattle.plan_situations.specs.declared.situation.Target.{Target}
use Rattle.plan_situations.proofs.ForCallers.{some_at, some_here}

pub element : {X : Type 0} (xs : List X) (k : ℕ) → k < length xs → X
element [] k lt = absurd (omega arith)
element (x ∷ xs) k lt = x

module _ (xs : List Target) (mmsi : ℕ) (ascending : AllPairs (λ (a b : Target). a.mmsi < b.mmsi) xs) where
  -- ---- what a comparison with the middle target says about those on either side

  pub below_too : (middle : ℕ) (T : Target) → middle < length xs → T ≡ get_or xs middle T → T.mmsi < mmsi → (i : ℕ) (d : Target) → i < middle + 1 → (get_or xs i d).mmsi < mmsi
  below_too middle T lt is less i d within = elim (cases_lt i middle) [
    | inl before ↦ (let further : (get_or xs i T).mmsi < (get_or xs middle T).mmsi = ascending i middle T before lt in
        let own : T.mmsi ≡ (get_or xs middle T).mmsi = ap (λ (t : Target). t.mmsi) is in
        let same : get_or xs i d ≡ get_or xs i T = get_or_default xs i d T (omega arith) in
        let told : (get_or xs i d).mmsi ≡ (get_or xs i T).mmsi = ap (λ (t : Target). t.mmsi) same in
        omega arith)
    | inr from ↦ (let here : i ≡ middle = omega arith in
        let same : get_or xs i d ≡ get_or xs middle T = get_or_default xs i d T (omega arith) ∙ ap (λ (k : ℕ). get_or xs k T) here in
        let told : (get_or xs i d).mmsi ≡ T.mmsi = ap (λ (t : Target). t.mmsi) (same ∙ sym is) in
        omega arith)
  ]

  pub above_too : (middle : ℕ) (T : Target) → middle < length xs → T ≡ get_or xs middle T → mmsi < T.mmsi → (i : ℕ) (d : Target) → middle ≤ i → i < length xs
      → mmsi < (get_or xs i d).mmsi
  above_too middle T lt is more i d from within = elim (cases_lt middle i) [
    | inl behind ↦ (let further : (get_or xs middle T).mmsi < (get_or xs i T).mmsi = ascending middle i T behind within in
        let own : T.mmsi ≡ (get_or xs middle T).mmsi = ap (λ (t : Target). t.mmsi) is in
        let told : (get_or xs i d).mmsi ≡ (get_or xs i T).mmsi = ap (λ (t : Target). t.mmsi) (get_or_default xs i d T within) in
        omega arith)
    | inr to ↦ (let here : i ≡ middle = omega arith in
        let same : get_or xs i d ≡ get_or xs middle T = get_or_default xs i d T within ∙ ap (λ (k : ℕ). get_or xs k T) here in
        let told : (get_or xs i d).mmsi ≡ T.mmsi = ap (λ (t : Target). t.mmsi) (same ∙ sym is) in
        omega arith)
  ]

  pub none_between : (low high : ℕ) → high ≤ low → ((i : ℕ) (d : Target) → i < low → (get_or xs i d).mmsi < mmsi)
      → ((i : ℕ) (d : Target) → high ≤ i → i < length xs → mmsi < (get_or xs i d).mmsi) → (k : ℕ) (d : Target) → k < length xs → (get_or xs k d).mmsi ≢ mmsi
  none_between low high over below above k d within e = elim (cases_lt k low) [
    | inl before ↦ (let less = below k d before in omega arith)
    | inr from ↦ (let more = above k d (omega arith) within in omega arith)
  ]

  -- ---- what holds of some target with the MMSI holds of the one that has it

  module _ (P : Target → Type 0) where
    pub only_target : (k : ℕ) (T : Target) → k < length xs → T ≡ get_or xs k T → T.mmsi ≡ mmsi → Some_ (λ (t : Target). (t.mmsi ≡ mmsi) × P t) xs ↔ P T
    only_target k T lt is e = (
      λ h. (let found = some_at (λ (t : Target). (t.mmsi ≡ mmsi) × P t) xs h in
          let j = found.0 in
          let facts = found.1.1 T in
          let within = found.1.0 in
          let other : (get_or xs j T).mmsi ≡ mmsi = facts.0 in
          let own : (get_or xs k T).mmsi ≡ mmsi = ap (λ (t : Target). t.mmsi) (sym is) ∙ e in
          elim (cases_lt j k) [
            | inl less ↦ (let apart : (get_or xs j T).mmsi < (get_or xs k T).mmsi = ascending j k T less lt in absurd (omega arith))
            | inr from ↦ elim (cases_lt k j) [
              | inl more ↦ (let apart : (get_or xs k T).mmsi < (get_or xs j T).mmsi = ascending k j T more within in absurd (omega arith))
              | inr to ↦ (let here : j ≡ k = omega arith in
                  subst P (ap (λ (i : ℕ). get_or xs i T) here ∙ sym is) facts.1)
            ]
          ]),
      λ p. some_here (λ (t : Target). (t.mmsi ≡ mmsi) × P t) xs k T lt (ap (λ (t : Target). t.mmsi) (sym is) ∙ e, subst P is p),
    )

    pub no_target : ((k : ℕ) (d : Target) → k < length xs → (get_or xs k d).mmsi ≢ mmsi) → ¬ Some_ (λ (t : Target). (t.mmsi ≡ mmsi) × P t) xs
    no_target none h = by xs none h
      where
        by : (ys : List Target) → ((k : ℕ) (d : Target) → k < length ys → (get_or ys k d).mmsi ≢ mmsi) → Some_ (λ (t : Target). (t.mmsi ≡ mmsi) × P t) ys → ⊥
        by [] apart some = absurd some.1
        by (y ∷ ys) apart some = (let found = some_at (λ (t : Target). (t.mmsi ≡ mmsi) × P t) (y ∷ ys) some in apart found.0 y found.1.0 (found.1.1 y).0)
