-- Counts that run down give the greatest value over a window.
use Rattle.std.proofs.Common.{◌≡◌, ℕ, zero, suc, ◌+◌, ◌-◌, ◌≤◌, refl, sym, ◌∙◌, arith, Bool, true, false, inl, inr}
use Rattle.std.specs.Prelude.{nat_lt, if◌then◌else◌}
use Rattle.std.proofs.lemmas.Bool.{cases_lt, lt-ltb, le-ltb}
use Rattle.mtl_formulas.specs.declared.verdict.Verdict.{Verdict}
use Rattle.mtl_formulas.specs.declared.verdict.Verdict.TheVariants.{No, Open, Yes}
use Rattle.mtl_formulas.specs.declared.formula.SpanKind.{SpanKind}
use Rattle.mtl_formulas.specs.declared.formula.SpanKind.TheVariants.{F, G, O, H}
use Rattle.mtl_formulas.specs.VerdictOrder.{greatest}
use Rattle.mtl_formulas.specs.FormulaValue.{greatest_over, span_value}
use Rattle.mtl_formulas.proofs.Verdicts.{greatest_over-suc}
use Rattle.mtl_monitor.specs.Inner.Steps.{sensed}
use Rattle.mtl_monitor.specs.Inner.Standing.{IsTimed}
use Rattle.mtl_monitor.specs.declared.left.Left.{Left}
use Rattle.mtl_monitor.specs.Inner.Countdown.{Lasts}
use Rattle.mtl_monitor.specs.WindowCounts.{left_after, left_beyond, left_value}
use Rattle.mtl_monitor.proofs.Windows.{least_over-turned}

abbrev graded : Bool → Bool → Verdict
graded y o = if y then Yes else (if o then Open else No)

graded-no : (y o : Bool) → graded y o ≡ greatest (graded y o) No
graded-no true o = refl
graded-no false true = refl
graded-no false false = refl

graded-open : (y o : Bool) → graded y true ≡ greatest (graded y o) Open
graded-open true o = refl
graded-open false true = refl
graded-open false false = refl

graded-yes : (y o : Bool) → Yes ≡ greatest (graded y o) Yes
graded-yes true o = refl
graded-yes false true = refl
graded-yes false false = refl

-- a count that runs down
ran_down : (w d y : ℕ) → d + 1 ≤ w → nat_lt (w - (d + 1)) (y - 1) ≡ nat_lt (w - d) y
ran_down w d y h = elim (cases_lt (w - d) y) [
  | inl more ↦ lt-ltb (w - (d + 1)) (y - 1) (omega arith) ∙ sym (lt-ltb (w - d) y more)
  | inr none ↦ le-ltb (w - (d + 1)) (y - 1) (omega arith) ∙ sym (le-ltb (w - d) y none)
]

pub after-one : (s : Left) (w d : ℕ) (v : Verdict) → d + 1 ≤ w → left_beyond (left_after s w v) (w - (d + 1)) ≡ greatest (left_beyond s (w - d)) v
after-one s w d No h = rw (ran_down w d s.yes h, ran_down w d s.some h) (graded-no (nat_lt (w - d) s.yes) (nat_lt (w - d) s.some))
after-one s w d Open h =
    let here : nat_lt (w - (d + 1)) w ≡ true = lt-ltb _ _ (omega arith) in
    rw (ran_down w d s.yes h, here) (graded-open (nat_lt (w - d) s.yes) (nat_lt (w - d) s.some))
after-one s w d Yes h =
    let here : nat_lt (w - (d + 1)) w ≡ true = lt-ltb _ _ (omega arith) in
    rw here (graded-yes (nat_lt (w - d) s.yes) (nat_lt (w - d) s.some))

pub beyond_all : (s : Left) (w : ℕ) → s.yes ≤ w → s.some ≤ w → left_beyond s w ≡ No
beyond_all s w h k = rw (le-ltb w s.yes h, le-ltb w s.some k)

pub yes_still : (s : Left) (w : ℕ) (v : Verdict) → s.yes ≤ w → (left_after s w v).yes ≤ w
yes_still s w No h = omega arith
yes_still s w Open h = omega arith
yes_still s w Yes h = omega arith

pub some_still : (s : Left) (w : ℕ) (v : Verdict) → s.some ≤ w → (left_after s w v).some ≤ w
some_still s w No h = omega arith
some_still s w Open h = omega arith
some_still s w Yes h = omega arith

pub graded_still : (s : Left) (w : ℕ) (v : Verdict) → s.yes ≤ w → s.yes ≤ s.some → (left_after s w v).yes ≤ (left_after s w v).some
graded_still s w No fits h = omega arith
graded_still s w Open fits h = omega arith
graded_still s w Yes fits h = omega arith

pub Lasts-after : (f : ℕ → Verdict) (s : Left) (w n : ℕ) → Lasts f s w n → Lasts f (left_after s w (f n)) w (n + 1)
Lasts-after f s w n h =
    record {
      greatest = by_length;
      yes_fits = yes_still s w (f n) h.yes_fits;
      some_fits = some_still s w (f n) h.some_fits;
      graded = graded_still s w (f n) h.yes_fits h.graded;
    }
  where
    by_length : (d : ℕ) → d ≤ w → left_beyond (left_after s w (f n)) (w - d) ≡ greatest_over f ((n + 1) - d) ((n + 1) - ((n + 1) - d))
    by_length zero fits =
        let none : (n + 1) - ((n + 1) - zero) ≡ zero = omega arith in
        let all : w - zero ≡ w = omega arith in
        rw (none, all) (beyond_all (left_after s w (f n)) w (yes_still s w (f n) h.yes_fits) (some_still s w (f n) h.some_fits))
    by_length (suc d) fits =
        let rest : w - suc d ≡ w - (d + 1) = omega arith in
        let start : (n + 1) - suc d ≡ n - d = omega arith in
        let count : (n + 1) - (n - d) ≡ suc (n - (n - d)) = omega arith in
        let index : (n - d) + (n - (n - d)) ≡ n = omega arith in
        rw (rest, start, count, greatest_over-suc f (n - d) (n - (n - d)), index, ← h.greatest d (omega arith)) (after-one s w d (f n) (omega arith))

pub Lasts-none : (f : ℕ → Verdict) (w : ℕ) → Lasts f (record { yes = 0; some = 0 }) w 0
Lasts-none f w =
    record {
      greatest = λ d fits.
          let none : 0 - (0 - d) ≡ zero = omega arith in
          let past : nat_lt (w - d) 0 ≡ false = le-ltb _ _ (omega arith) in
          rw (none, past);
      yes_fits = omega arith;
      some_fits = omega arith;
      graded = omega arith;
    }

-- a window of no position
pub Lasts-nowhere : (f : ℕ → Verdict) (s : Left) (w n : ℕ) → w ≤ 0 → s.yes ≤ w → s.some ≤ w → s.yes ≤ s.some → Lasts f s w n
Lasts-nowhere f s w n empty yes_fits some_fits ordered =
    record {
      greatest = λ d fits.
          let none : n - (n - d) ≡ zero = omega arith in
          let start : w - d ≡ w = omega arith in
          rw (none, start) (beyond_all s w yes_fits some_fits);
      yes_fits = yes_fits;
      some_fits = some_fits;
      graded = ordered;
    }

pub Lasts-nowhere_after : (f : ℕ → Verdict) (s : Left) (w m n : ℕ) (v : Verdict) → w ≤ 0 → Lasts f s w m → Lasts f (left_after s w v) w n
Lasts-nowhere_after f s w m n v empty h =
    Lasts-nowhere f (left_after s w v) w n empty (yes_still s w v h.yes_fits) (some_still s w v h.some_fits) (graded_still s w v h.yes_fits h.graded)

pub Lasts-value : (f : ℕ → Verdict) (s : Left) (w n : ℕ) → Lasts f s w n → left_value s ≡ greatest_over f (n - w) (n - (n - w))
Lasts-value f s w n h =
    let none : w - w ≡ 0 = omega arith in
    rw none at (h.greatest w (omega arith))

-- F, G, O and H are one window over the last (u + 1) - l values of their operand, which O and H take l rows later.
pub counted : (kind : SpanKind) (l u : ℕ) (f : ℕ → Verdict) (s : Left) (operand late i : ℕ) → l ≤ u → IsTimed kind l u operand late → late ≤ i
    → Lasts (λ k. sensed kind (f k)) s ((u + 1) - l) ((i + 1) - operand) → sensed kind (left_value s) ≡ span_value kind l u f (i - late)
counted F l u f s operand late i ordered timed inside h =
    let n = (i + 1) - operand in
    let start : n - ((u + 1) - l) ≡ (i - late) + l = omega arith in
    let count : n - ((i - late) + l) ≡ (u + 1) - l = omega arith in
    rw (Lasts-value _ s ((u + 1) - l) n h, start, count)
counted G l u f s operand late i ordered timed inside h =
    let n = (i + 1) - operand in
    let start : n - ((u + 1) - l) ≡ (i - late) + l = omega arith in
    let count : n - ((i - late) + l) ≡ (u + 1) - l = omega arith in
    rw (Lasts-value _ s ((u + 1) - l) n h, start, count) (least_over-turned f _ _)
counted O l u f s operand late i ordered timed inside h =
    let n = (i + 1) - operand in
    let start : n - ((u + 1) - l) ≡ (i - late) - u = omega arith in
    let count : n - ((i - late) - u) ≡ ((i - late + 1) - l) - ((i - late) - u) = omega arith in
    rw (Lasts-value _ s ((u + 1) - l) n h, start, count)
counted H l u f s operand late i ordered timed inside h =
    let n = (i + 1) - operand in
    let start : n - ((u + 1) - l) ≡ (i - late) - u = omega arith in
    let count : n - ((i - late) - u) ≡ ((i - late + 1) - l) - ((i - late) - u) = omega arith in
    rw (Lasts-value _ s ((u + 1) - l) n h, start, count) (least_over-turned f _ _)
