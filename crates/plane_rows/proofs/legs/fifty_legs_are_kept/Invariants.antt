use Rattle.std.proofs.Common.{◌*◌, ◌≤◌, IfSome, None}
use Rattle.std.specs.List.{last_or}
use Rattle.plane_rows.proofs.legs.fifty_legs_are_kept.Given as goal

-- Each leg is over where the next begins.
abbrev pub invariant-loop-k : goal.invariant-loop-k
invariant-loop-k g l = IfSome (last_or None l.legs) (λ last. last.t2 ≤ 10 * l.k)
