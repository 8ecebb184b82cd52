use Rattle.std.proofs.Common.{◌≡◌, ℕ, ◌+◌, ◌<◌}
use Rattle.mtl_early.specs.Inner.Cells.{cell_at}
use Rattle.mtl_early.proofs.zone.keep_old.Given as goal

abbrev pub invariant-loop-age : goal.invariant-loop-age
invariant-loop-age l = (k : ℕ) → k < l.age → cell_at l.was k ≡ cell_at l.cells (l.at + k)
