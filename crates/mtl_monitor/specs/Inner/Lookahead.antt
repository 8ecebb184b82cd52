-- What an operator U keeps of the positions ahead, in blocks as long as its window. Each position of the block that is read now
-- stands by itself; each of the block before stands with all that follow it there, so the window is one of these with the
-- positions that were read since.
use Rattle.std.specs.Prelude.{◌≡◌, ℕ, zero, suc, ◌+◌, ◌-◌, ◌<◌, ◌≤◌, ◌==◌, ◌&&◌, if◌then◌else◌, List, [], ◌∷◌, ◌++◌, length, ◌⊎◌}
use Rattle.circular_buffer.specs.Buffer.{buffer, keep_last}
use Rattle.mtl_formulas.specs.declared.verdict.Verdict.{Verdict}
use Rattle.mtl_formulas.specs.declared.verdict.Verdict.TheVariants.{No, Yes}
use Rattle.mtl_formulas.specs.VerdictOrder.{least, greatest}
use Rattle.mtl_formulas.specs.FormulaValue.{least_over}
use Rattle.mtl_monitor.specs.declared.lookahead.Stretch.{Stretch}
use Rattle.mtl_monitor.specs.declared.lookahead.Lookahead.{Lookahead}

-- no position
abbrev pub nowhere : Stretch
nowhere = record { held = Yes; reached = No }

-- one position, at which the operands have these values
abbrev pub single : Verdict → Verdict → Stretch
single a b = record { held = a; reached = b }

-- one stretch and the next
abbrev pub joined : Stretch → Stretch → Stretch
joined x y = record { held = least x.held y.held; reached = greatest x.reached (least x.held y.reached) }

abbrev pub first_of : List Stretch → Stretch
first_of [] = nowhere
first_of (x ∷ xs) = x

-- each with all that follow it
abbrev pub with_all_after : List Stretch → List Stretch
with_all_after [] = []
with_all_after (x ∷ xs) = joined x (first_of (with_all_after xs)) ∷ with_all_after xs

-- before any position
abbrev pub untouched : ℕ → Lookahead
untouched width = record { cells = buffer [] width; older = 0; run = nowhere }

-- A block that is full is summed up.
abbrev pub lookahead_with : ℕ → List Stretch → ℕ → Stretch → Lookahead
lookahead_with w items older run =
    if (older == 0) && (length items == w)
    then record { cells = buffer (with_all_after items) w; older = w; run = nowhere }
    else record { cells = buffer items w; older = older; run = run }

-- after the next position
abbrev pub lookahead_after : Lookahead → Verdict → Verdict → Lookahead
lookahead_after s a b =
    lookahead_with s.cells.capacity (keep_last s.cells.capacity (s.cells.items ++ single a b ∷ [])) (s.older - 1) (joined s.run (single a b))

-- over the whole window
abbrev pub lookahead_value : Lookahead → Verdict
lookahead_value s = (joined (first_of s.cells.items) s.run).reached

-- b somewhere among so many positions from start on, and a at all of them before it
abbrev pub reached_over : (ℕ → Verdict) → (ℕ → Verdict) → ℕ → ℕ → Verdict
reached_over a b start zero = No
reached_over a b start (suc count) = greatest (b start) (least (a start) (reached_over a b (start + 1) count))

abbrev pub stretch_over : (ℕ → Verdict) → (ℕ → Verdict) → ℕ → ℕ → Stretch
stretch_over a b start count = record { held = least_over a start count; reached = reached_over a b start count }

abbrev pub singles : (ℕ → Verdict) → (ℕ → Verdict) → ℕ → ℕ → List Stretch
singles a b start zero = []
singles a b start (suc count) = single (a start) (b start) ∷ singles a b (start + 1) count

-- from each of so many positions to the last of them
abbrev pub to_the_last : (ℕ → Verdict) → (ℕ → Verdict) → ℕ → ℕ → List Stretch
to_the_last a b start zero = []
to_the_last a b start (suc count) = stretch_over a b start (suc count) ∷ to_the_last a b (start + 1) count

-- The first n positions were read, in blocks of w: the last block begins at `block`, and `count` of its positions were read.
pub record Reads (a b : ℕ → Verdict) (s : Lookahead) (w n : ℕ) : Type 0 where
  pub block : ℕ
  pub count : ℕ
  pub older : List Stretch
  pub so_far : n ≡ block + count
  pub inside : count < w
  pub room : s.cells.capacity ≡ w
  pub items : s.cells.items ≡ older ++ singles a b block count
  pub size : length older ≡ s.older
  pub run : s.run ≡ stretch_over a b block count
  pub before : (block ≡ 0) × (s.older ≡ 0) ⊎ (w ≤ block) × (s.older ≡ w - count) × (older ≡ to_the_last a b ((block - w) + count) (w - count))
