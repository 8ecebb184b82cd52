use Rattle.std.proofs.Common.{ℕ, ◌+◌, ◌-◌, ◌≤◌, ◌++◌, List}
use Rattle.log_lines.specs.Standing.{StandsFor as JudgeStandsFor}
use Rattle.settled_ticks.specs.Standing.{handed_out}
use Rattle.settling.specs.Inner.TakenTicks.{HasTakenSettled, IsSettling}
use Rattle.settling.proofs.settled.Settled.settle.Given as goal

-- the ticks before the next were taken, and are settled
abbrev pub invariant-loop-items : goal.invariant-loop-items
invariant-loop-items g l = record {
  up : (lines more : List (List ℕ)) (given : List g.row.T-Item.Denot)
      → HasTakenSettled (g.T.TickTaker.taker l.initial.self.taker) l.initial.self.ticks l.scenario lines given
      → JudgeStandsFor l.judge l.scenario (lines ++ more)
      → IsSettling (g.T.TickTaker.taker l.self.taker) l.self.ticks l.scenario (lines ++ more) (given ++ l.items.items);
  further : handed_out l.initial.self.ticks ≤ handed_out l.self.ticks;
}

abbrev pub decreases-loop-items : goal.decreases-loop-items
decreases-loop-items g l = l.scenario.window.ticks + 1 - handed_out l.self.ticks
