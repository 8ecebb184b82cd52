use Rattle.std.proofs.Common.{◌≡◌, ℕ, ◌+◌, ◌<◌, ◌≤◌, ◌⊎◌, length, get_or}
use Rattle.std.specs.List.{All}
use Rattle.planner.specs.Inner.Levels.{IsFollowedTo}
use Rattle.planner.specs.Inner.Watching.{IsReady}
use Rattle.plan_situations.specs.Prefixes.{reached}
use Rattle.planner.specs.declared.watched.Watched.{Watched}
use Rattle.planner.proofs.level.follow_some.Given as goal

abbrev pub invariant-loop-k : goal.invariant-loop-k
invariant-loop-k l = record {
  count : length l.watched ≡ length l.fn.watched;
  ready : All (IsReady l.basis.program) l.watched;
  others : (j : ℕ) (w : Watched) → j < l.first ⊎ l.k ≤ j → get_or l.watched j w ≡ get_or l.fn.watched j w;
  followed : (j : ℕ) (w : Watched) → l.first ≤ j → j < l.k
      → IsFollowedTo l.situation l.basis l.leg.plan (reached l.situation l.leg.index) (reached l.situation (l.leg.index + 1)) l.from j (get_or l.watched j w);
}
