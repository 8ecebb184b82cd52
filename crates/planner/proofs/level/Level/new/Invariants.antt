use Rattle.std.proofs.Common.{◌≡◌, length}
use Rattle.std.specs.List.{All}
use Rattle.planner.specs.Inner.Watching.{IsReady}
use Rattle.planner.proofs.level.Level.new.Given as goal

abbrev pub invariant-loop-target : goal.invariant-loop-target
invariant-loop-target l = record {
  count : length l.watched.items ≡ l._target-index;
  ready : All (IsReady l.basis.program) l.watched.items;
}
