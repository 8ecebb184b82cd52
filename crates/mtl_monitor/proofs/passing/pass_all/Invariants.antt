use Rattle.std.proofs.Common.{◌≤◌, ◌-◌, List, length}
use Rattle.mtl_formulas.specs.declared.verdict.Verdict.{Verdict}
use Rattle.mtl_monitor.specs.Inner.Quiet.{Walk}
use Rattle.mtl_monitor.proofs.passing.pass_all.Given as goal

-- The nodes before k are passed, or quiet.
abbrev pub invariant-loop-k : goal.invariant-loop-k
invariant-loop-k l =
    record {
      inside : l.k ≤ length l.nodes;
      walk : (before : List Verdict) → Walk l.nodes l.fn.states before l.fn.values l.fn.moving l.i l.end l.marks l.states l.values l.moving l.so_far l.still l.k;
    }

abbrev pub decreases-loop-k : goal.decreases-loop-k
decreases-loop-k l = length l.nodes - l.k
