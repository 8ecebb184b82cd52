-- A No, and a Yes, needs as many rows after its position as the formula's lags say.
use Rattle.std.proofs.Common.{◌≡◌, ℕ, zero, ◌+◌, ◌-◌, ◌<◌, ◌≤◌, refl, arith, Bool, true, false, inl, inr, length, max, min}
use Rattle.std.specs.Prelude.{◌==◌}
use Rattle.std.proofs.lemmas.Bool.Decides.{nat_tests}
use Rattle.mtl_formulas.specs.declared.verdict.Verdict.{Verdict}
use Rattle.mtl_formulas.specs.declared.verdict.Verdict.TheVariants.{No, Open, Yes}
use Rattle.mtl_formulas.specs.declared.formula.PairKind.{PairKind}
use Rattle.mtl_formulas.specs.declared.formula.PairKind.TheVariants.{And, Or, Implies}
use Rattle.mtl_formulas.specs.declared.formula.SpanKind.{SpanKind}
use Rattle.mtl_formulas.specs.declared.formula.SpanKind.TheVariants.{F, G, O, H}
use Rattle.mtl_formulas.specs.declared.formula.LinkKind.{LinkKind}
use Rattle.mtl_formulas.specs.declared.formula.LinkKind.TheVariants.{U, S}
use Rattle.mtl_formulas.specs.VerdictOrder.{turned_round, least}
use Rattle.mtl_formulas.specs.FormulaTree.{FormulaTree, leaf, negation, pair, span, link}
use Rattle.mtl_formulas.specs.FormulaMeasures.{HasValidParts}
use Rattle.mtl_formulas.specs.FormulaValue.{least_over, pair_value, span_value, link_value, past_start, past_count, ahead_count}
use Rattle.mtl_formulas.specs.Traces.{Trace, value_in}
use Rattle.mtl_monitor.proofs.ForCallers.{within_end, within_rows}
use Rattle.rule_program.specs.declared.lags.Lags.{Lags}
use Rattle.rule_program.specs.Lags.{here, pair_lags, span_lags, link_lags, lags_of}
use Rattle.rule_program.proofs.Ranges.{greatest_no, greatest_yes, least_no, least_yes, found_no, found_yes, all_no, all_yes}

-- Each No, and each Yes, lies so far before n.
pub record HasLags (f : ℕ → Verdict) (lags : Lags) (n : ℕ) : Type 0 where
  pub no : (i : ℕ) → f i ≡ No → i + lags.no < n
  pub yes : (i : ℕ) → f i ≡ Yes → i + lags.yes < n

turned_no : (v : Verdict) → turned_round v ≡ No → v ≡ Yes
turned_no Yes h = refl
turned_no No h = cc
turned_no Open h = cc

turned_yes : (v : Verdict) → turned_round v ≡ Yes → v ≡ No
turned_yes No h = refl
turned_yes Yes h = cc
turned_yes Open h = cc

HasLags-negation : (f : ℕ → Verdict) (a : Lags) (n : ℕ) → HasLags f a n → HasLags (λ i. turned_round (f i)) (record { no = a.yes; yes = a.no }) n
HasLags-negation f a n h = record {
  no = λ i e. h.yes i (turned_no (f i) e);
  yes = λ i e. h.no i (turned_yes (f i) e);
}

max_below : (i x y n : ℕ) → i + x < n → i + y < n → i + max x y < n
max_below i x y n h k = omega (arith, h, k)

min_left : (i x y n : ℕ) → i + x < n → i + min x y < n
min_left i x y n h = omega (arith, h)

min_right : (i x y n : ℕ) → i + y < n → i + min x y < n
min_right i x y n h = omega (arith, h)

HasLags-pair : (kind : PairKind) (f g : ℕ → Verdict) (a b : Lags) (n : ℕ) → HasLags f a n → HasLags g b n → HasLags (λ i. pair_value kind (f i) (g i)) (pair_lags kind a b) n
HasLags-pair And f g a b n h k = record {
  no = λ i e. elim (least_no (f i) (g i) e) [
    | inl x ↦ min_left i a.no b.no n (h.no i x)
    | inr y ↦ min_right i a.no b.no n (k.no i y)
  ];
  yes = λ i e. let parts = least_yes (f i) (g i) e in max_below i a.yes b.yes n (h.yes i parts.0) (k.yes i parts.1);
}
HasLags-pair Or f g a b n h k = record {
  no = λ i e. let parts = greatest_no (f i) (g i) e in max_below i a.no b.no n (h.no i parts.0) (k.no i parts.1);
  yes = λ i e. elim (greatest_yes (f i) (g i) e) [
    | inl x ↦ min_left i a.yes b.yes n (h.yes i x)
    | inr y ↦ min_right i a.yes b.yes n (k.yes i y)
  ];
}
HasLags-pair Implies f g a b n h k = record {
  no = λ i e. let parts = greatest_no (turned_round (f i)) (g i) e in max_below i a.yes b.no n (h.yes i (turned_no (f i) parts.0)) (k.no i parts.1);
  yes = λ i e. elim (greatest_yes (turned_round (f i)) (g i) e) [
    | inl x ↦ min_left i a.no b.yes n (h.no i (turned_yes (f i) x))
    | inr y ↦ min_right i a.no b.yes n (k.yes i y)
  ];
}

-- If an operator that looks back has a lower bound of 0, the value here is one of those that it looks at.
here_below : (i l lag n : ℕ) → i < n → (l ≡ 0 → i + lag < n) → i + here l lag < n
here_below i l lag n inside h = by_test (l == 0) refl
  where
    by_test : (b : Bool) → (l == 0) ≡ b → i + here l lag < n
    by_test true is = let none : l ≡ 0 = grind (arith, nat_tests) in rw is (h none)
    by_test false is = rw is (omega (arith, inside))

-- the value of an operator over its operand, at a position of the trace
module _ (f : ℕ → Verdict) (a : Lags) (n : ℕ) (h : HasLags f a n) where
  span_no : (kind : SpanKind) (l u i : ℕ) → l ≤ u → i < n → span_value kind l u f i ≡ No → i + (span_lags kind l u a).no < n
  span_no F l u i ordered inside e =
      let last = h.no (i + u) (all_no f (i + l) (ahead_count l u) (i + u) e (omega (arith, ordered)) (omega (arith, ordered))) in omega (arith, last)
  span_no G l u i ordered inside e =
      let found = found_no f (i + l) (ahead_count l u) e in
      let at = h.no found.at found.value in omega (arith, at, found.from)
  span_no O l u i ordered inside e =
      here_below i l a.no n inside (λ none. h.no i (all_no f (past_start i u) (past_count i l u) i e (omega arith) (omega (arith, none))))
  span_no H l u i ordered inside e =
      let found = found_no f (past_start i u) (past_count i l u) e in
      let at = h.no found.at found.value in omega (arith, at, found.from, inside)

  span_yes : (kind : SpanKind) (l u i : ℕ) → l ≤ u → i < n → span_value kind l u f i ≡ Yes → i + (span_lags kind l u a).yes < n
  span_yes F l u i ordered inside e =
      let found = found_yes f (i + l) (ahead_count l u) e in
      let at = h.yes found.at found.value in omega (arith, at, found.from)
  span_yes G l u i ordered inside e =
      let last = h.yes (i + u) (all_yes f (i + l) (ahead_count l u) (i + u) e (omega (arith, ordered)) (omega (arith, ordered))) in omega (arith, last)
  span_yes O l u i ordered inside e =
      let found = found_yes f (past_start i u) (past_count i l u) e in
      let at = h.yes found.at found.value in omega (arith, at, found.from, inside)
  span_yes H l u i ordered inside e =
      here_below i l a.yes n inside (λ none. h.yes i (all_yes f (past_start i u) (past_count i l u) i e (omega arith) (omega (arith, none))))

  module _ (g : ℕ → Verdict) (b : Lags) (k : HasLags g b n) where
    -- the terms of U and S
    until_term : ℕ → ℕ → Verdict
    until_term i j = least (g j) (least_over f i (j - i))

    until_no : (l u i : ℕ) → l ≤ u → link_value U l u f g i ≡ No → i + min a.no (u + b.no) < n
    until_no l u i ordered e =
        elim (least_no (g (i + u)) (least_over f i ((i + u) - i))
        (all_no (λ j. least (g j) (least_over f i (j - i))) (i + l) (ahead_count l u) (i + u) e (omega (arith, ordered)) (omega (arith, ordered)))) [
          | inl fails ↦
              let last = k.no (i + u) fails in
              let bound : i + (u + b.no) < n = omega (arith, last) in
              min_right i a.no (u + b.no) n bound
          | inr barred ↦
              let found = found_no f i ((i + u) - i) barred in
              let at = h.no found.at found.value in
              let bound : i + a.no < n = omega (arith, at, found.from) in
              min_left i a.no (u + b.no) n bound
        ]

    link_no : (kind : LinkKind) (l u i : ℕ) → l ≤ u → i < n → link_value kind l u f g i ≡ No → i + (link_lags kind l u a b).no < n
    link_no U l u i ordered inside e = until_no l u i ordered e
    link_no S l u i ordered inside e =
        here_below i l b.no n inside (λ none. k.no i (at_here (all_no (λ j. least (g j) (least_over f (j + 1) (i - j))) (past_start i u) (past_count i l u) i e (omega arith) (omega (arith, none)))))
      where
        at_here : least (g i) (least_over f (i + 1) (i - i)) ≡ No → g i ≡ No
        at_here e =
            let none : i - i ≡ zero = omega arith in
            elim (least_no (g i) Yes (rw none at e)) [ inl x ↦ x | inr y ↦ cc ]

    link_yes : (kind : LinkKind) (l u i : ℕ) → l ≤ u → i < n → link_value kind l u f g i ≡ Yes → i + (link_lags kind l u a b).yes < n
    link_yes U l u i ordered inside e =
        let found = found_yes (λ j. least (g j) (least_over f i (j - i))) (i + l) (ahead_count l u) e in
        let at = k.yes found.at (least_yes (g found.at) (least_over f i (found.at - i)) found.value).0 in
        omega (arith, at, found.from)
    link_yes S l u i ordered inside e =
        let found = found_yes (λ j. least (g j) (least_over f (j + 1) (i - j))) (past_start i u) (past_count i l u) e in
        let at = k.yes found.at (least_yes (g found.at) (least_over f (found.at + 1) (i - found.at)) found.value).0 in
        omega (arith, at, found.from, inside)

pub value-HasLags : (rows : Trace) (t : FormulaTree) → HasValidParts t → HasLags (value_in rows t) (lags_of t) (length rows)
value-HasLags rows (leaf a) valid = record {
  no = λ i e. let inside = within_rows rows (leaf a) i (λ unknown. cc) in omega (arith, inside);
  yes = λ i e. let inside = within_rows rows (leaf a) i (λ unknown. cc) in omega (arith, inside);
}
value-HasLags rows (negation t) valid = HasLags-negation (value_in rows t) (lags_of t) (length rows) (value-HasLags rows t valid)
value-HasLags rows (pair kind s t) valid =
    HasLags-pair kind (value_in rows s) (value_in rows t) (lags_of s) (lags_of t) (length rows) (value-HasLags rows s valid.0) (value-HasLags rows t valid.1)
value-HasLags rows (span kind l u t) valid =
    let below = value-HasLags rows t valid.2 in record {
      no = λ i e.
          let inside = within_rows rows (span kind l u t) i (λ unknown. cc) in
          span_no (value_in rows t) (lags_of t) (length rows) below kind l u i valid.0 inside (rw (within_end rows i (span_value kind l u (value_in rows t) i) inside) at e);
      yes = λ i e.
          let inside = within_rows rows (span kind l u t) i (λ unknown. cc) in
          span_yes (value_in rows t) (lags_of t) (length rows) below kind l u i valid.0 inside (rw (within_end rows i (span_value kind l u (value_in rows t) i) inside) at e);
    }
value-HasLags rows (link kind l u s t) valid =
    let first = value-HasLags rows s valid.2 in
    let second = value-HasLags rows t valid.3 in record {
      no = λ i e.
          let inside = within_rows rows (link kind l u s t) i (λ unknown. cc) in
          link_no (value_in rows s) (lags_of s) (length rows) first (value_in rows t) (lags_of t) second kind l u i valid.0 inside
          (rw (within_end rows i (link_value kind l u (value_in rows s) (value_in rows t) i) inside) at e);
      yes = λ i e.
          let inside = within_rows rows (link kind l u s t) i (λ unknown. cc) in
          link_yes (value_in rows s) (lags_of s) (length rows) first (value_in rows t) (lags_of t) second kind l u i valid.0 inside
          (rw (within_end rows i (link_value kind l u (value_in rows s) (value_in rows t) i) inside) at e);
    }
