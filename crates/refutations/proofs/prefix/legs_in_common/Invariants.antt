use Rattle.std.proofs.Common.{ℕ, ◌≡◌, ◌<◌}
use Rattle.std.specs.Prelude.{slice_index}
use Rattle.refutations.proofs.prefix.legs_in_common.Given as goal

abbrev pub invariant-loop-leg : goal.invariant-loop-leg
invariant-loop-leg l = (i : ℕ) → i < l.leg → slice_index l.plan i ≡ slice_index l.other i
