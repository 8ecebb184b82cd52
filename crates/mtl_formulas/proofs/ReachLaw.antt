-- The value at a position is the same over all traces that agree up to there and the formula's reach beyond.
use Rattle.std.proofs.Common.{◌≡◌, ℕ, zero, suc, ◌+◌, ◌-◌, ◌≤◌, List, [], ◌∷◌, length, refl, ap, ap₂, sym, ◌∙◌, arith, Option, Some, None, map}
use Rattle.std.specs.Prelude.{slice_get, nat_lt, is_some, option_map, if◌then◌else◌}
use Rattle.std.proofs.lemmas.Bool.Decides.{nat_tests}
use Rattle.std.proofs.lemmas.List.{length-map}
use Rattle.std.proofs.lemmas.Option.{slice_get-map}
use Rattle.mtl_formulas.specs.declared.atom.Atom.{Atom}
use Rattle.mtl_formulas.specs.declared.verdict.Verdict.{Verdict}
use Rattle.mtl_formulas.specs.declared.verdict.Verdict.TheVariants.{Open}
use Rattle.mtl_formulas.specs.declared.formula.SpanKind.{SpanKind}
use Rattle.mtl_formulas.specs.declared.formula.SpanKind.TheVariants.{F, G, O, H}
use Rattle.mtl_formulas.specs.declared.formula.LinkKind.{LinkKind}
use Rattle.mtl_formulas.specs.declared.formula.LinkKind.TheVariants.{U, S}
use Rattle.mtl_formulas.specs.VerdictOrder.{turned_round, least}
use Rattle.mtl_formulas.specs.FormulaTree.{FormulaTree, leaf, negation, pair, span, link}
use Rattle.mtl_formulas.specs.FormulaMeasures.{reach_of, span_reach, link_reach}
use Rattle.mtl_formulas.specs.FormulaValue.{value_of, answer_at, pair_value, span_value, link_value}
use Rattle.mtl_formulas.proofs.Verdicts.{greatest_over-same, least_over-same}

span-same : (kind : SpanKind) (l u : ℕ) (f g : ℕ → Verdict) (i : ℕ) → ((k : ℕ) → k ≤ i + span_reach kind u → f k ≡ g k) → span_value kind l u f i ≡ span_value kind l u g i
span-same F l u f g i same = greatest_over-same f g _ _ (λ k above below. same k (omega arith))
span-same G l u f g i same = least_over-same f g _ _ (λ k above below. same k (omega arith))
span-same O l u f g i same = greatest_over-same f g _ _ (λ k above below. same k (omega arith))
span-same H l u f g i same = least_over-same f g _ _ (λ k above below. same k (omega arith))

link-same : (kind : LinkKind) (l u : ℕ) (f g p q : ℕ → Verdict) (i : ℕ)
    → ((k : ℕ) → k ≤ i + link_reach kind u → f k ≡ g k) → ((k : ℕ) → k ≤ i + link_reach kind u → p k ≡ q k)
    → link_value kind l u f p i ≡ link_value kind l u g q i
link-same U l u f g p q i a_same b_same =
    greatest_over-same _ _ _ _ (λ k above below.
    ap₂ least (b_same k (omega arith)) (least_over-same f g i (k - i) (λ j after before. a_same j (omega arith))))
link-same S l u f g p q i a_same b_same =
    greatest_over-same _ _ _ _ (λ k above below.
    ap₂ least (b_same k (omega arith)) (least_over-same f g (k + 1) (i - k) (λ j after before. a_same j (omega arith))))

nat_lt-is_some : {A : Type 0} (rows : List A) (i : ℕ) → nat_lt i (length rows) ≡ is_some (slice_get rows i)
nat_lt-is_some [] i = grind (arith, nat_tests)
nat_lt-is_some (row ∷ rows) zero = grind (arith, nat_tests)
nat_lt-is_some (row ∷ rows) (suc i) =
    let shifted : nat_lt (suc i) (length (row ∷ rows)) ≡ nat_lt i (length rows) = grind (arith, nat_tests) in
    shifted ∙ nat_lt-is_some rows i

module _ {A B : Type 0} (answer : A → Atom → Verdict) (rows : List A) (reply : B → Atom → Verdict) (others : List B) where
  -- Both traces have a row at a position, or neither has, and they answer the same.
  pub record AgreeAt (k : ℕ) : Type 0 where
    pub answers : (a : Atom) → answer_at answer rows a (slice_get rows k) ≡ answer_at reply others a (slice_get others k)
    pub inside : nat_lt k (length rows) ≡ nat_lt k (length others)

  pub value_of-same : (t : FormulaTree) (i : ℕ) → ((k : ℕ) → k ≤ i + reach_of t → AgreeAt k) → value_of answer rows t i ≡ value_of reply others t i
  value_of-same (leaf a) i agree = (agree i (omega arith)).answers a
  value_of-same (negation t) i agree = ap turned_round (value_of-same t i agree)
  value_of-same (pair kind s t) i agree =
      ap₂ (pair_value kind) (value_of-same s i (λ k h. agree k (omega arith))) (value_of-same t i (λ k h. agree k (omega arith)))
  value_of-same (span kind l u t) i agree =
      ap₂ (λ b v. if b then v else Open) (agree i (omega arith)).inside
      (span-same kind l u _ _ i (λ k h. value_of-same t k (λ j below. agree j (omega arith))))
  value_of-same (link kind l u s t) i agree =
      ap₂ (λ b v. if b then v else Open) (agree i (omega arith)).inside
      (link-same kind l u _ _ _ _ i (λ k h. value_of-same s k (λ j below. agree j (omega arith))) (λ k h. value_of-same t k (λ j below. agree j (omega arith))))

-- equal rows at a position
pub equal-AgreeAt : {A : Type 0} (answer : A → Atom → Verdict) (rows others : List A) (k : ℕ) → slice_get rows k ≡ slice_get others k → AgreeAt answer rows answer others k
equal-AgreeAt answer rows others k equal = record {
  answers = λ a. ap (λ row. answer_at answer rows a row) equal;
  inside = nat_lt-is_some rows k ∙ (ap is_some equal ∙ sym (nat_lt-is_some others k));
}

answer_at-map : {A : Type 0} (answer : A → Atom → Verdict) (rows : List A) (a : Atom) (o : Option A)
    → answer_at answer rows a o ≡ answer_at (λ row. row) (map answer rows) a (option_map answer o)
answer_at-map answer rows a None = refl
answer_at-map answer rows a (Some row) = refl

-- rows and what they answer
pub map-AgreeAt : {A : Type 0} (answer : A → Atom → Verdict) (rows : List A) (k : ℕ) → AgreeAt answer rows (λ row. row) (map answer rows) k
map-AgreeAt answer rows k = record {
  answers = λ a. rw (slice_get-map answer rows k) (answer_at-map answer rows a (slice_get rows k));
  inside = rw (length-map rows answer);
}
