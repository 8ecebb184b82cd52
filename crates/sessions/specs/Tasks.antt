-- What is asked of a log.
use Rattle.std.specs.Prelude.{ℕ, Bool, List}
use Rattle.tasks.specs.declared.mode.Mode.{Mode}
use Rattle.sessions.specs.declared.asked.Asked.{Asked}

-- the report of a mode; for a plan, whether the report says why every plan fails, if every plan does; and the text with the rows that a recheck checks
pub record Task : Type 0 where
  pub mode : Mode
  pub why : Bool
  pub rows : List ℕ

-- the query of a mode with these options
abbrev pub task_by : Mode → Asked → Task
task_by mode asked = record { mode = mode; why = asked.why; rows = asked.rows.now }
