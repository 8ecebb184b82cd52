-- Counts that run down give the value of an operator S.
use Rattle.std.proofs.Common.{◌≡◌, ℕ, zero, suc, ◌+◌, ◌-◌, ◌<◌, ◌≤◌, refl, ap, sym, ◌∙◌, arith, Bool, true, false}
use Rattle.std.proofs.lemmas.Bool.{le-ltb}
use Rattle.std.specs.Prelude.{nat_lt, if◌then◌else◌}
use Rattle.std.proofs.lemmas.Bool.Decides.{nat_tests}
use Rattle.mtl_formulas.specs.declared.verdict.Verdict.{Verdict}
use Rattle.mtl_formulas.specs.declared.verdict.Verdict.TheVariants.{No, Open, Yes}
use Rattle.mtl_formulas.specs.declared.formula.LinkKind.TheVariants.{S}
use Rattle.mtl_formulas.specs.VerdictOrder.{turned_round, least, greatest}
use Rattle.mtl_formulas.specs.FormulaValue.{greatest_over, least_over, link_value}
use Rattle.mtl_formulas.proofs.Verdicts.{least_over-suc, greatest_over-same}
use Rattle.mtl_monitor.specs.declared.left.Left.{Left}
use Rattle.mtl_monitor.specs.Inner.Countdown.{Lasts, held_at}
use Rattle.mtl_monitor.specs.WindowCounts.{left_after, left_beyond, left_value, left_under}
use Rattle.mtl_monitor.proofs.Windows.{least_over-turned}
use Rattle.mtl_monitor.proofs.Countdown.{Lasts-after, Lasts-value}

pub least_assoc : (u v w : Verdict) → least u (least v w) ≡ least (least u v) w
least_assoc No v w = refl
least_assoc Yes v w = refl
least_assoc Open No w = refl
least_assoc Open Yes w = refl
least_assoc Open Open No = refl
least_assoc Open Open Open = refl
least_assoc Open Open Yes = refl

least_greatest : (u v w : Verdict) → greatest (least u w) (least v w) ≡ least (greatest u v) w
least_greatest No v w = refl
least_greatest Open No No = refl
least_greatest Open No Open = refl
least_greatest Open No Yes = refl
least_greatest Open Open No = refl
least_greatest Open Open Open = refl
least_greatest Open Open Yes = refl
least_greatest Open Yes No = refl
least_greatest Open Yes Open = refl
least_greatest Open Yes Yes = refl
least_greatest Yes No No = refl
least_greatest Yes No Open = refl
least_greatest Yes No Yes = refl
least_greatest Yes Open No = refl
least_greatest Yes Open Open = refl
least_greatest Yes Open Yes = refl
least_greatest Yes Yes No = refl
least_greatest Yes Yes Open = refl
least_greatest Yes Yes Yes = refl

pub greatest_over-least : (f : ℕ → Verdict) (v : Verdict) (start count : ℕ) → greatest_over (λ k. least (f k) v) start count ≡ least (greatest_over f start count) v
greatest_over-least f v start zero = refl
greatest_over-least f v start (suc count) =
    ap (greatest (least (f start) v)) (greatest_over-least f v (start + 1) count) ∙ least_greatest (f start) (greatest_over f (start + 1) count) v

abbrev graded : Bool → Bool → Verdict
graded y o = if y then Yes else (if o then Open else No)

least_yes : (v : Verdict) → v ≡ least v Yes
least_yes No = refl
least_yes Open = refl
least_yes Yes = refl

least_no : (v : Verdict) → No ≡ least v No
least_no No = refl
least_no Open = refl
least_no Yes = refl

-- a Yes counts as a value that is not No
both_tests : (k y o : ℕ) → y ≤ o → graded false (nat_lt k o) ≡ least (graded (nat_lt k y) (nat_lt k o)) Open
both_tests k y o h = by_tests (nat_lt k y) (nat_lt k o) refl refl
  where
    by_tests : (p q : Bool) → nat_lt k y ≡ p → nat_lt k o ≡ q → graded false (nat_lt k o) ≡ least (graded (nat_lt k y) (nat_lt k o)) Open
    by_tests true true a b = rw (a, b)
    by_tests false true a b = rw (a, b)
    by_tests false false a b = rw (a, b)
    by_tests true false a b =
        let less : k < y = grind (arith, nat_tests) in
        let most : o ≤ k = grind (arith, nat_tests) in
        absurd (omega arith)

pub under : (s : Left) (v : Verdict) (k : ℕ) → s.yes ≤ s.some → left_beyond (left_under s v) k ≡ least (left_beyond s k) v
under s No k h = let none : nat_lt k 0 ≡ false = le-ltb k 0 (omega arith) in rw none (least_no (left_beyond s k))
under s Open k h = let none : nat_lt k 0 ≡ false = le-ltb k 0 (omega arith) in rw none (both_tests k s.yes s.some h)
under s Yes k h = least_yes (left_beyond s k)

pub under_yes : (s : Left) (v : Verdict) (w : ℕ) → s.yes ≤ w → (left_under s v).yes ≤ w
under_yes s No w h = omega arith
under_yes s Open w h = omega arith
under_yes s Yes w h = h

pub under_some : (s : Left) (v : Verdict) (w : ℕ) → s.some ≤ w → (left_under s v).some ≤ w
under_some s No w h = omega arith
under_some s Open w h = h
under_some s Yes w h = h

pub under_graded : (s : Left) (v : Verdict) → s.yes ≤ s.some → (left_under s v).yes ≤ (left_under s v).some
under_graded s No h = omega arith
under_graded s Open h = omega arith
under_graded s Yes h = h

module _ (a b : ℕ → Verdict) where
  one_heard : (heard k : ℕ) → k < heard → held_at a b (heard + 1) k ≡ least (held_at a b heard k) (a heard)
  one_heard heard k h =
      let count : (heard + 1) - (k + 1) ≡ suc (heard - (k + 1)) = omega arith in
      let index : (k + 1) + (heard - (k + 1)) ≡ heard = omega arith in
      rw (count, least_over-suc a (k + 1) (heard - (k + 1)), index) (least_assoc (b k) (least_over a (k + 1) (heard - (k + 1))) (a heard))

  -- the first operand is read
  pub Lasts-under : (s : Left) (w n heard : ℕ) → n ≤ heard → Lasts (held_at a b heard) s w n → Lasts (held_at a b (heard + 1)) (left_under s (a heard)) w n
  Lasts-under s w n heard inside h =
      record {
        greatest = λ d fits.
            under s (a heard) (w - d) h.graded
            ∙ (ap (λ v. least v (a heard)) (h.greatest d fits)
            ∙ (sym (greatest_over-least (held_at a b heard) (a heard) (n - d) (n - (n - d)))
            ∙ greatest_over-same (λ k. least (held_at a b heard k) (a heard)) (held_at a b (heard + 1)) (n - d) (n - (n - d))
            (λ k above below. sym (one_heard heard k (omega arith)))));
        yes_fits = under_yes s (a heard) w h.yes_fits;
        some_fits = under_some s (a heard) w h.some_fits;
        graded = under_graded s (a heard) h.graded;
      }

  -- and then the second, so many values later
  pub Lasts-held : (s bars : Left) (w l n heard : ℕ) → heard ≡ (n + 1) + l → Lasts (held_at a b heard) s w n → Lasts (λ k. turned_round (a k)) bars l heard
      → Lasts (held_at a b heard) (left_after s w (least (b n) (turned_round (left_value bars)))) w (n + 1)
  Lasts-held s bars w l n heard is h barred =
      let start : heard - l ≡ n + 1 = omega arith in
      let rest : heard - (n + 1) ≡ l = omega arith in
      let value : left_value bars ≡ greatest_over (λ k. turned_round (a k)) (n + 1) l = rw (start, rest) at (Lasts-value (λ k. turned_round (a k)) bars l heard barred) in
      let here : least (b n) (turned_round (left_value bars)) ≡ held_at a b heard n = rw (value, rest) (ap (least (b n)) (least_over-turned a (n + 1) l)) in
      rw here (Lasts-after (held_at a b heard) s w n h)

  pub counted-since : (s : Left) (l u j : ℕ) → l ≤ u → Lasts (held_at a b (j + 1)) s ((u + 1) - l) ((j + 1) - l) → left_value s ≡ link_value S l u a b j
  counted-since s l u j ordered h =
      let n = (j + 1) - l in
      let start : n - ((u + 1) - l) ≡ j - u = omega arith in
      let count : n - (j - u) ≡ ((j + 1) - l) - (j - u) = omega arith in
      rw (Lasts-value (held_at a b (j + 1)) s ((u + 1) - l) n h, start, count)
      (greatest_over-same (held_at a b (j + 1)) (λ k. least (b k) (least_over a (k + 1) (j - k))) (j - u) (((j + 1) - l) - (j - u)) (λ k above below. let rest : (j + 1) - (k + 1) ≡ j - k = omega arith in rw rest))
