use Rattle.std.proofs.Common.{◌≤◌, length}
use Rattle.std.specs.Prelude.{All}
use Rattle.refutations.specs.RightLists.{IsEntry}
use Rattle.plan_rows.proofs.why.entries_in.Given as goal

abbrev pub invariant-loop-k : goal.invariant-loop-k
invariant-loop-k l = record {
  entries : All (IsEntry l.situation) l.list.items;
  few : length l.list.items ≤ l._k;
}
