-- What counts that run down stand for, if a window is read from the end to the beginning.
use Rattle.std.specs.Prelude.{◌≡◌, ℕ, ◌-◌, ◌≤◌, Bool, true, false}
use Rattle.mtl_formulas.specs.declared.verdict.Verdict.{Verdict}
use Rattle.mtl_formulas.specs.VerdictOrder.{turned_round, least}
use Rattle.mtl_formulas.specs.FormulaValue.{greatest_over, least_over}
use Rattle.mtl_monitor.specs.WindowCounts.{left_beyond}
use Rattle.mtl_monitor.specs.declared.left.Left.{Left}

-- The window was read from the end to the beginning, down to a position: of the values from there on, each number up to its width
-- has the greatest value that the counts give.
pub record Reads (f : ℕ → Verdict) (s : Left) (w position : ℕ) : Type 0 where
  pub greatest : (d : ℕ) → d ≤ w → left_beyond s (w - d) ≡ greatest_over f position d
  pub yes_fits : s.yes ≤ w
  pub some_fits : s.some ≤ w
  pub graded : s.yes ≤ s.some

-- the value, or the value turned round
abbrev pub sensed : Bool → Verdict → Verdict
sensed true v = turned_round v
sensed false v = v

-- b at a position, and a from i on before it
abbrev pub held_ahead : (ℕ → Verdict) → (ℕ → Verdict) → ℕ → ℕ → Verdict
held_ahead a b i k = least (b k) (least_over a i (k - i))
