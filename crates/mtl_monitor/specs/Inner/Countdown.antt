-- What counts that run down stand for.
use Rattle.std.specs.Prelude.{◌≡◌, ℕ, ◌+◌, ◌-◌, ◌≤◌}
use Rattle.mtl_formulas.specs.declared.verdict.Verdict.{Verdict}
use Rattle.mtl_monitor.specs.declared.left.Left.{Left}
use Rattle.mtl_formulas.specs.VerdictOrder.{least}
use Rattle.mtl_formulas.specs.FormulaValue.{greatest_over, least_over}
use Rattle.mtl_monitor.specs.WindowCounts.{left_beyond}

-- Of n values, the last d have the greatest value that the counts give, for each d up to the window's width.
pub record Lasts (f : ℕ → Verdict) (s : Left) (w n : ℕ) : Type 0 where
  pub greatest : (d : ℕ) → d ≤ w → left_beyond s (w - d) ≡ greatest_over f (n - d) (n - (n - d))
  pub yes_fits : s.yes ≤ w
  pub some_fits : s.some ≤ w
  pub graded : s.yes ≤ s.some

-- b at a position, and a after it among the first `heard` values
abbrev pub held_at : (ℕ → Verdict) → (ℕ → Verdict) → ℕ → ℕ → Verdict
held_at a b heard k = least (b k) (least_over a (k + 1) (heard - (k + 1)))
