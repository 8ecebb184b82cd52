-- The value of a formula at a position hangs on the rows alone from as far back as it looks to as far ahead.
use Rattle.std.proofs.Common.{◌≡◌, ℕ, zero, suc, ◌+◌, ◌-◌, ◌<◌, ◌≤◌, List, [], ◌∷◌, length, refl, sym, ap, ap₂, ◌∙◌, arith}
use Rattle.std.specs.Prelude.{Option, Some, None, if◌then◌else◌, is_some, nat_lt, slice_get}
use Rattle.std.proofs.lemmas.Bool.Decides.{nat_tests}
use Rattle.mtl_formulas.specs.FormulaMeasures.{link_reach, reach_of, span_reach}
use Rattle.mtl_formulas.specs.FormulaTree.{FormulaTree, leaf, link, negation, pair, span}
use Rattle.mtl_formulas.specs.FormulaValue.{ahead_count, answer_at, greatest_over, least_over, link_value, pair_value, past_count, past_start, span_value}
use Rattle.mtl_formulas.specs.VerdictOrder.{greatest, least, turned_round}
use Rattle.mtl_formulas.specs.declared.atom.Atom.{Atom}
use Rattle.mtl_formulas.specs.declared.formula.LinkKind.{LinkKind}
use Rattle.mtl_formulas.specs.declared.formula.LinkKind.TheVariants.{S, U}
use Rattle.mtl_formulas.specs.declared.formula.SpanKind.{SpanKind}
use Rattle.mtl_formulas.specs.declared.formula.SpanKind.TheVariants.{F, G, H, O}
use Rattle.mtl_formulas.specs.declared.verdict.Verdict.{Verdict}
use Rattle.mtl_formulas.specs.declared.verdict.Verdict.TheVariants.{Open}
use Rattle.mtl_formulas.specs.Traces.{Trace, value_in}
use Rattle.laws.specs.Lookback.{link_lookback, lookback_of, span_lookback}

-- ---- values over some positions, counted from two places

greatest_shifted : (f g : ℕ → Verdict) (i j count other : ℕ) → count ≡ other → ((k : ℕ) → k < count → f (i + k) ≡ g (j + k)) → greatest_over f i count ≡ greatest_over g j other
greatest_shifted f g i j zero zero e same = refl
greatest_shifted f g i j zero (suc other) e same = absurd (omega arith)
greatest_shifted f g i j (suc count) zero e same = absurd (omega arith)
greatest_shifted f g i j (suc count) (suc other) e same =
    let i0 : i ≡ i + 0 = omega arith in
    let j0 : j + 0 ≡ j = omega arith in
    ap₂ greatest (ap f i0 ∙ (same 0 (omega arith) ∙ ap g j0))
    (greatest_shifted f g (i + 1) (j + 1) count other (omega arith)
    (λ k lt. let i1 : (i + 1) + k ≡ i + suc k = omega arith in let j1 : j + suc k ≡ (j + 1) + k = omega arith in ap f i1 ∙ (same (suc k) (omega arith) ∙ ap g j1)))

least_shifted : (f g : ℕ → Verdict) (i j count other : ℕ) → count ≡ other → ((k : ℕ) → k < count → f (i + k) ≡ g (j + k)) → least_over f i count ≡ least_over g j other
least_shifted f g i j zero zero e same = refl
least_shifted f g i j zero (suc other) e same = absurd (omega arith)
least_shifted f g i j (suc count) zero e same = absurd (omega arith)
least_shifted f g i j (suc count) (suc other) e same =
    let i0 : i ≡ i + 0 = omega arith in
    let j0 : j + 0 ≡ j = omega arith in
    ap₂ least (ap f i0 ∙ (same 0 (omega arith) ∙ ap g j0))
    (least_shifted f g (i + 1) (j + 1) count other (omega arith)
    (λ k lt. let i1 : (i + 1) + k ≡ i + suc k = omega arith in let j1 : j + suc k ≡ (j + 1) + k = omega arith in ap f i1 ∙ (same (suc k) (omega arith) ∙ ap g j1)))

-- ---- the operators

-- Two lists of values agree, as position p of the one and position q of the other are one place, at the places from low to high.
abbrev AgreeOver : (ℕ → Verdict) → (ℕ → Verdict) → ℕ → ℕ → ℕ → ℕ → Type 0
AgreeOver f g p q low high = (k : ℕ) → low ≤ k → k ≤ high → f (p + k) ≡ g (q + k)

at_place : (f g : ℕ → Verdict) (p q low high i j k : ℕ) → AgreeOver f g p q low high → low ≤ k → k ≤ high → i ≡ p + k → q + k ≡ j → f i ≡ g j
at_place f g p q low high i j k same from to first second = ap f first ∙ (same k from to ∙ ap g second)

span_shifted : (kind : SpanKind) (l u : ℕ) (f g : ℕ → Verdict) (p q j : ℕ) → span_lookback kind u ≤ j
    → AgreeOver f g p q (j - span_lookback kind u) (j + span_reach kind u) → span_value kind l u f (p + j) ≡ span_value kind l u g (q + j)
span_shifted F l u f g p q j le same =
    greatest_shifted f g (p + j + l) (q + j + l) (ahead_count l u) (ahead_count l u) refl
    (λ k lt. at_place f g p q (j - 0) (j + u) (p + j + l + k) (q + j + l + k) (j + l + k) same (omega arith) (omega arith) (omega arith) (omega arith))
span_shifted G l u f g p q j le same =
    least_shifted f g (p + j + l) (q + j + l) (ahead_count l u) (ahead_count l u) refl
    (λ k lt. at_place f g p q (j - 0) (j + u) (p + j + l + k) (q + j + l + k) (j + l + k) same (omega arith) (omega arith) (omega arith) (omega arith))
span_shifted O l u f g p q j le same =
    greatest_shifted f g (past_start (p + j) u) (past_start (q + j) u) (past_count (p + j) l u) (past_count (q + j) l u) (omega arith)
    (λ k lt. at_place f g p q (j - u) (j + 0) (past_start (p + j) u + k) (past_start (q + j) u + k) (j - u + k) same (omega arith) (omega arith) (omega arith) (omega arith))
span_shifted H l u f g p q j le same =
    least_shifted f g (past_start (p + j) u) (past_start (q + j) u) (past_count (p + j) l u) (past_count (q + j) l u) (omega arith)
    (λ k lt. at_place f g p q (j - u) (j + 0) (past_start (p + j) u + k) (past_start (q + j) u + k) (j - u + k) same (omega arith) (omega arith) (omega arith) (omega arith))

link_shifted : (kind : LinkKind) (l u : ℕ) (a b c d : ℕ → Verdict) (p q j : ℕ) → link_lookback kind u ≤ j
    → AgreeOver a b p q (j - link_lookback kind u) (j + link_reach kind u) → AgreeOver c d p q (j - link_lookback kind u) (j + link_reach kind u)
    → link_value kind l u a c (p + j) ≡ link_value kind l u b d (q + j)
link_shifted U l u a b c d p q j le same also =
    greatest_shifted (λ k. least (c k) (least_over a (p + j) (k - (p + j)))) (λ k. least (d k) (least_over b (q + j) (k - (q + j))))
    (p + j + l) (q + j + l) (ahead_count l u) (ahead_count l u) refl
    (λ k lt. ap₂ least
    (at_place c d p q (j - 0) (j + u) (p + j + l + k) (q + j + l + k) (j + l + k) also (omega arith) (omega arith) (omega arith) (omega arith))
    (least_shifted a b (p + j) (q + j) ((p + j + l + k) - (p + j)) ((q + j + l + k) - (q + j)) (omega arith)
    (λ n before. at_place a b p q (j - 0) (j + u) (p + j + n) (q + j + n) (j + n) same (omega arith) (omega arith) (omega arith) (omega arith))))
link_shifted S l u a b c d p q j le same also =
    greatest_shifted (λ k. least (c k) (least_over a (k + 1) ((p + j) - k))) (λ k. least (d k) (least_over b (k + 1) ((q + j) - k)))
    (past_start (p + j) u) (past_start (q + j) u) (past_count (p + j) l u) (past_count (q + j) l u) (omega arith)
    (λ k lt. ap₂ least
    (at_place c d p q (j - u) (j + 0) (past_start (p + j) u + k) (past_start (q + j) u + k) (j - u + k) also (omega arith) (omega arith) (omega arith) (omega arith))
    (least_shifted a b (past_start (p + j) u + k + 1) (past_start (q + j) u + k + 1) ((p + j) - (past_start (p + j) u + k)) ((q + j) - (past_start (q + j) u + k)) (omega arith)
    (λ n before. at_place a b p q (j - u) (j + 0) (past_start (p + j) u + k + 1 + n) (past_start (q + j) u + k + 1 + n) (j - u + k + 1 + n) same (omega arith) (omega arith) (omega arith) (omega arith))))

-- ---- a formula

inside_is : {A : Type 0} (rows : List A) (i : ℕ) → nat_lt i (length rows) ≡ is_some (slice_get rows i)
inside_is [] i = grind (arith, nat_tests)
inside_is (row ∷ rows) zero = grind (arith, nat_tests)
inside_is (row ∷ rows) (suc i) =
    let shifted : nat_lt (suc i) (length (row ∷ rows)) ≡ nat_lt i (length rows) = grind (arith, nat_tests) in
    shifted ∙ inside_is rows i

same_answer : (xs ys : Trace) (a : Atom) (o : Option (Atom → Verdict)) → answer_at (λ row. row) xs a o ≡ answer_at (λ row. row) ys a o
same_answer xs ys a None = refl
same_answer xs ys a (Some row) = refl

module _ (xs ys : Trace) (p q n : ℕ) (agree : (k : ℕ) → k ≤ n → slice_get xs (p + k) ≡ slice_get ys (q + k)) where
  inside_too : (j : ℕ) → j ≤ n → nat_lt (p + j) (length xs) ≡ nat_lt (q + j) (length ys)
  inside_too j le = inside_is xs (p + j) ∙ (ap is_some (agree j le) ∙ sym (inside_is ys (q + j)))

  pub value_shifted : (t : FormulaTree) (j : ℕ) → lookback_of t ≤ j → j + reach_of t ≤ n → value_in xs t (p + j) ≡ value_in ys t (q + j)
  value_shifted (leaf a) j back ahead =
      ap (λ (o : Option (Atom → Verdict)). answer_at (λ row. row) xs a o) (agree j (omega arith)) ∙ same_answer xs ys a (slice_get ys (q + j))
  value_shifted (negation t) j back ahead = ap turned_round (value_shifted t j back ahead)
  value_shifted (pair kind s t) j back ahead =
      ap₂ (pair_value kind) (value_shifted s j (omega arith) (omega arith)) (value_shifted t j (omega arith) (omega arith))
  value_shifted (span kind l u t) j back ahead =
      ap₂ (λ b v. if b then v else Open) (inside_too j (omega arith))
      (span_shifted kind l u (value_in xs t) (value_in ys t) p q j (omega arith) (λ k from to. value_shifted t k (omega arith) (omega arith)))
  value_shifted (link kind l u s t) j back ahead =
      ap₂ (λ b v. if b then v else Open) (inside_too j (omega arith))
      (link_shifted kind l u (value_in xs s) (value_in ys s) (value_in xs t) (value_in ys t) p q j (omega arith)
      (λ k from to. value_shifted s k (omega arith) (omega arith)) (λ k from to. value_shifted t k (omega arith) (omega arith)))
