use Rattle.std.proofs.Common.{ℕ, ◌+◌, ◌-◌, ◌≤◌, ◌++◌, List}
use Rattle.log_lines.specs.Standing.{StandsFor as JudgeStandsFor}
use Rattle.settled_ticks.specs.Standing.{handed_out}
use Rattle.settling.specs.Inner.TakenTicks.{HasTaken, HasTakenSettled}
use Rattle.settling.proofs.settled.Settled.finish.Given as goal

-- the ticks before the next were taken
abbrev pub invariant-loop-rest : goal.invariant-loop-rest
invariant-loop-rest g l = record {
  up : (lines more : List (List ℕ)) (given : List g.row.T-Item.Denot)
      → HasTakenSettled (g.T.TickTaker.taker l.initial.self.taker) l.initial.self.ticks l.scenario lines given
      → JudgeStandsFor l.judge l.scenario (lines ++ more)
      → HasTaken (g.T.TickTaker.taker l.self.taker) l.self.ticks l.scenario (lines ++ more) (given ++ l.rest.items);
  further : handed_out l.initial.self.ticks ≤ handed_out l.self.ticks;
}

abbrev pub decreases-loop-rest : goal.decreases-loop-rest
decreases-loop-rest g l = l.scenario.window.ticks + 1 - handed_out l.self.ticks
