use Rattle.std.proofs.Common.{ℕ, ◌≡◌, ◌<◌, take}
use Rattle.refutations.specs.Inner.Replays.{situation_in, IsReplay}
use Rattle.refutations.specs.RightLists.{ends_from, IsSoundAt}
use Rattle.refutations.proofs.check_list.check_each.Given as goal

abbrev pub invariant-loop-k : goal.invariant-loop-k
invariant-loop-k l = record {
  replay : IsReplay l.replay;
  same : situation_in l.replay.course ≡ l.situation;
  covered : l.covered ≡ ends_from l.situation 0 (take l.k l.entries);
  sound : (j : ℕ) → j < l.k → IsSoundAt l.situation l.entries j;
}
