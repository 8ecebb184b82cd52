-- How often the value that a delay has read last was read.
use Rattle.std.specs.Prelude.{◌≡◌, ℕ, true, ◌-◌, ◌<◌, ◌≤◌, length, get_or}
use Rattle.circular_buffer.specs.Buffer.{Buffer}
use Rattle.mtl_formulas.specs.declared.verdict.Verdict.{Verdict}
use Rattle.mtl_monitor.specs.declared.delay_line.Delayed.{Delayed}
use Rattle.mtl_monitor.specs.declared.delay_line.Run.{Run}
use Rattle.mtl_monitor.specs.Inner.Steps.{same_verdict}

-- The last values of the ring, up to the number that was counted, are the run's value.
pub record IsRun (b : Buffer Verdict) (r : Run) : Type 0 where
  pub fits : length b.items ≤ b.capacity
  pub within : r.count ≤ length b.items
  pub equal : (j : ℕ) → length b.items - r.count ≤ j → j < length b.items → get_or b.items j r.value ≡ r.value

-- All cells hold this value alone.
abbrev pub IsFullOf : Delayed → Verdict → Type 0
IsFullOf d v = (d.run.count ≡ d.ring.capacity) × (d.run.value ≡ v)

-- The same, where values are compared as the program does.
abbrev pub IsFullAs : Delayed → Verdict → Type 0
IsFullAs d v = (d.run.count ≡ d.ring.capacity) × (same_verdict v d.run.value ≡ true)
