-- Counts that run down give the greatest value of a window that is read from the end to the beginning.
use Rattle.std.proofs.Common.{◌≡◌, ℕ, zero, suc, ◌+◌, ◌-◌, ◌≤◌, refl, ap, sym, ◌∙◌, arith, true, false}
use Rattle.std.specs.Prelude.{nat_lt}
use Rattle.std.proofs.lemmas.Bool.{lt-ltb, le-ltb}
use Rattle.mtl_formulas.specs.declared.verdict.Verdict.{Verdict}
use Rattle.mtl_formulas.specs.declared.verdict.Verdict.TheVariants.{No, Open, Yes}
use Rattle.mtl_formulas.specs.VerdictOrder.{turned_round, least, greatest}
use Rattle.mtl_formulas.specs.FormulaValue.{greatest_over, least_over}
use Rattle.mtl_formulas.proofs.Verdicts.{greatest_over-same}
use Rattle.mtl_monitor.specs.WindowCounts.{left_after, left_under, left_beyond, left_value}
use Rattle.mtl_monitor.specs.declared.left.Left.{Left}
use Rattle.mtl_monitor.proofs.Countdown.{after-one, beyond_all, graded_still, some_still, yes_still}
use Rattle.mtl_monitor.proofs.CountdownSince.{greatest_over-least, least_assoc, under, under_graded, under_some, under_yes}
use Rattle.mtl_monitor.proofs.Windows.{least_over-turned}
use Rattle.mtl_early.specs.Inner.Counts.{Reads, held_ahead}

greatest_comm : (v w : Verdict) → greatest v w ≡ greatest w v
greatest_comm No No = refl
greatest_comm No Open = refl
greatest_comm No Yes = refl
greatest_comm Open No = refl
greatest_comm Open Open = refl
greatest_comm Open Yes = refl
greatest_comm Yes No = refl
greatest_comm Yes Open = refl
greatest_comm Yes Yes = refl

-- the position before is read
pub Reads-before : (f : ℕ → Verdict) (s : Left) (w p : ℕ) (v : Verdict) → v ≡ f p → Reads f s w (p + 1) → Reads f (left_after s w v) w p
Reads-before f s w p v is h =
    record {
      greatest = by_length;
      yes_fits = yes_still s w v h.yes_fits;
      some_fits = some_still s w v h.some_fits;
      graded = graded_still s w v h.yes_fits h.graded;
    }
  where
    by_length : (d : ℕ) → d ≤ w → left_beyond (left_after s w v) (w - d) ≡ greatest_over f p d
    by_length zero fits =
        let all : w - zero ≡ w = omega arith in
        rw all (beyond_all (left_after s w v) w (yes_still s w v h.yes_fits) (some_still s w v h.some_fits))
    by_length (suc d) fits =
        let rest : w - suc d ≡ w - (d + 1) = omega arith in
        rw (rest, after-one s w d v (omega arith), h.greatest d (omega arith), is) (greatest_comm (greatest_over f (p + 1) d) (f p))

-- where all values are Open
all_open : (f : ℕ → Verdict) (p count : ℕ) → ((k : ℕ) → p ≤ k → f k ≡ Open) → greatest_over f p (suc count) ≡ Open
all_open f p zero h = rw (h p (omega arith))
all_open f p (suc count) h = rw (h p (omega arith), all_open f (p + 1) count (λ k after. h k (omega (arith, after))))

-- before any position is read
pub Reads-open : (f : ℕ → Verdict) (w p : ℕ) → ((k : ℕ) → p ≤ k → f k ≡ Open) → Reads f (record { yes = 0; some = w }) w p
Reads-open f w p h =
    record { greatest = by_length; yes_fits = omega arith; some_fits = omega arith; graded = omega arith }
  where
    by_length : (d : ℕ) → d ≤ w → left_beyond (record { yes = 0; some = w }) (w - d) ≡ greatest_over f p d
    by_length zero fits =
        let all : nat_lt (w - zero) w ≡ false = le-ltb (w - zero) w (omega arith) in
        let none : nat_lt (w - zero) 0 ≡ false = le-ltb (w - zero) 0 (omega arith) in
        rw (none, all)
    by_length (suc d) fits =
        let some : nat_lt (w - suc d) w ≡ true = lt-ltb (w - suc d) w (omega arith) in
        let none : nat_lt (w - suc d) 0 ≡ false = le-ltb (w - suc d) 0 (omega arith) in
        rw (none, some, all_open f p d h)

pub Reads-value : (f : ℕ → Verdict) (s : Left) (w p : ℕ) → Reads f s w p → left_value s ≡ greatest_over f p w
Reads-value f s w p h = let none : w - w ≡ 0 = omega arith in rw none at (h.greatest w (omega arith))

-- the same values from the position on
Reads-same : (f g : ℕ → Verdict) (s : Left) (w p : ℕ) → ((k : ℕ) → p ≤ k → f k ≡ g k) → Reads f s w p → Reads g s w p
Reads-same f g s w p same h = record {
  greatest = λ d fits. h.greatest d fits ∙ greatest_over-same f g p d (λ k after before. same k after);
  yes_fits = h.yes_fits;
  some_fits = h.some_fits;
  graded = h.graded;
}

least_comm : (v w : Verdict) → least v w ≡ least w v
least_comm No No = refl
least_comm No Open = refl
least_comm No Yes = refl
least_comm Open No = refl
least_comm Open Open = refl
least_comm Open Yes = refl
least_comm Yes No = refl
least_comm Yes Open = refl
least_comm Yes Yes = refl

module _ (a b : ℕ → Verdict) where
  -- one position of a more before those that were held
  held_before : (i k : ℕ) → i + 1 ≤ k → least (held_ahead a b (i + 1) k) (a i) ≡ held_ahead a b i k
  held_before i k after =
      let count : k - i ≡ suc (k - (i + 1)) = omega arith in
      rw count
      (sym (least_assoc (b k) (least_over a (i + 1) (k - (i + 1))) (a i))
      ∙ ap (least (b k)) (least_comm (least_over a (i + 1) (k - (i + 1))) (a i)))

  -- what was held, once the first operand is read at the position before
  pub Reads-under : (s : Left) (w i p : ℕ) (v : Verdict) → v ≡ a i → i + 1 ≤ p → Reads (held_ahead a b (i + 1)) s w p → Reads (held_ahead a b i) (left_under s v) w p
  Reads-under s w i p v is after h =
      Reads-same (λ k. least (held_ahead a b (i + 1) k) v) (held_ahead a b i) (left_under s v) w p
      (λ k from. rw is (held_before i k (omega (arith, from, after))))
      (record {
        greatest = λ d fits.
            under s v (w - d) h.graded
            ∙ (ap (λ u. least u v) (h.greatest d fits) ∙ sym (greatest_over-least (held_ahead a b (i + 1)) v p d));
        yes_fits = under_yes s v w h.yes_fits;
        some_fits = under_some s v w h.some_fits;
        graded = under_graded s v h.graded;
      })

  -- the second operand at the distance l, with the first at all positions before it
  pub held_at : (bars : Left) (l i : ℕ) (v : Verdict) → v ≡ b (i + l) → Reads (λ k. turned_round (a k)) bars l i
      → least v (turned_round (left_value bars)) ≡ held_ahead a b i (i + l)
  held_at bars l i v is h =
      let count : (i + l) - i ≡ l = omega arith in
      rw (is, Reads-value (λ k. turned_round (a k)) bars l i h, least_over-turned a i l, count)

  pub held-open : (n k : ℕ) → ((j : ℕ) → n ≤ j → a j ≡ Open) → ((j : ℕ) → n ≤ j → b j ≡ Open) → n ≤ k → held_ahead a b n k ≡ Open
  held-open n k a_open b_open after = rw (b_open k after) (open_or_yes n (k - n) a_open)
    where
      open_or_yes : (p count : ℕ) → ((j : ℕ) → p ≤ j → a j ≡ Open) → least Open (least_over a p count) ≡ Open
      open_or_yes p zero h = refl
      open_or_yes p (suc count) h =
          rw (h p (omega arith)) (least_assoc Open Open (least_over a (p + 1) count) ∙ open_or_yes (p + 1) count (λ j from. h j (omega (arith, from))))
