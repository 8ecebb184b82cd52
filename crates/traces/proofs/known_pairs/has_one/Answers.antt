use Rattle.std.proofs.Common.{◌≡◌, ◌⊎◌, ◌<◌, ◌∷◌, [], inl, inr, ℕ, List, length, get_or, take, false, true, refl, sym, subst, ◌∙◌, arith}
use Rattle.std.proofs.lemmas.List.{get_or_default, take_all, take_more}
use Rattle.std.proofs.lemmas.List.Elements.{Contains-append_cases}
use Rattle.std.specs.List.{Contains}
use Rattle.outside.proofs.Members.{in_cons, in_none}
use Rattle.traces.proofs.known_pairs.has_one.Goals as goal

there : (xs : List ℕ) (i x : ℕ) → i < length xs → get_or xs i 0 ≡ x → Contains xs x
there xs i x lt e = (i, lt, get_or_default xs i x 0 lt ∙ e)

-- The one number of a list of one.
only : (y x : ℕ) → Contains (y ∷ []) x → y ≡ x
only y x i = elim (in_cons y [] x i) [ inl same ↦ same | inr none ↦ in_none x none ]

pub loop-mmsi-init : goal.loop-mmsi-init
loop-mmsi-init c = λ mmsi one i. in_none mmsi i

pub loop-mmsi-preserved : goal.loop-mmsi-preserved
loop-mmsi-preserved c = λ mmsi one i.
    let xs : List ℕ = c.args.subjects.now in
    let k = c.loop-mmsi.mmsi-index in
    let longer = subst (λ (ys : List ℕ). Contains ys mmsi) (take_more xs k 0 c.loop-mmsi-test.true) i in
    elim (Contains-append_cases (take k xs) (get_or xs k 0 ∷ []) mmsi longer) [
      | inl was ↦ c.loop-mmsi.invariant mmsi one was
      | inr now ↦ (let same = only (get_or xs k 0) mmsi now in
          let is = c.is_one.ensures.1 (subst (λ (n : ℕ). (n ≡ c.args.pair.subject) ⊎ (n ≡ c.args.pair.other)) (sym same) one) in
          let not = c.if-is_one.false in
          let both : false ≡ true = sym not ∙ is in absurd (cc))
    ]

pub returns-then-is_one : goal.returns-then-is_one
returns-then-is_one c =
    let xs : List ℕ = c.args.subjects.now in
    let k = c.loop-mmsi.mmsi-index in (
      λ _. elim (c.is_one.ensures.0 c.if-is_one.true) [
        | inl e ↦ inl (there xs k c.args.pair.subject c.loop-mmsi-test.true e)
        | inr e ↦ inr (there xs k c.args.pair.other c.loop-mmsi-test.true e)
      ],
      λ _. refl,
    )

pub returns : goal.returns
returns c =
    let xs : List ℕ = c.args.subjects.now in
    let all : take c.loop-mmsi.mmsi-index xs ≡ xs = take_all c.loop-mmsi.mmsi-index xs (omega (arith, c.loop-mmsi-test.false)) in
    let whole = λ (mmsi : ℕ) (i : Contains xs mmsi). subst (λ (ys : List ℕ). Contains ys mmsi) (sym all) i in (
      λ h. let never : false ≡ true = h in absurd (cc),
      λ h. elim h [
        | inl i ↦ absurd (c.loop-mmsi.invariant c.args.pair.subject (inl refl) (whole c.args.pair.subject i))
        | inr i ↦ absurd (c.loop-mmsi.invariant c.args.pair.other (inr refl) (whole c.args.pair.other i))
      ],
    )
