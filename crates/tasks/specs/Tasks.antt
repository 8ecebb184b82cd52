-- A task: its kind, and its inputs besides the log.
use Rattle.std.specs.Prelude.{ℕ, Bool, false, List, []}
use Rattle.tasks.specs.declared.mode.Mode.{Mode}
use Rattle.tasks.specs.declared.mode.Mode.TheVariants as mode
use Rattle.tasks.specs.declared.task.Task.{Task}
use Rattle.tasks.specs.declared.task.Task.TheVariants as task

-- the task of a mode, with the options that it needs: the seed of a drill, whether a plan says why every plan fails, and the rows of a recheck
abbrev pub task_by : Mode → ℕ → Bool → List ℕ → Task
task_by mode.Points seed why rows = task.Points
task_by mode.Audit seed why rows = task.Audit
task_by mode.Plan seed why rows = task.Plan why
task_by mode.Drill seed why rows = task.Drill seed
task_by mode.Recheck seed why rows = task.Recheck rows
task_by mode.Watch seed why rows = task.Watch

-- its kind
abbrev pub task_mode : Task → Mode
task_mode task.Points = mode.Points
task_mode task.Audit = mode.Audit
task_mode (task.Plan why) = mode.Plan
task_mode (task.Drill seed) = mode.Drill
task_mode (task.Recheck rows) = mode.Recheck
task_mode task.Watch = mode.Watch

-- whether the report says why every plan fails, if every plan fails
abbrev pub says_why : Task → Bool
says_why (task.Plan why) = why
says_why _ = false

-- the seed of the log that it makes
abbrev pub task_seed : Task → ℕ
task_seed (task.Drill seed) = seed
task_seed _ = 0

-- the name of the file with the rows that it checks
abbrev pub task_rows : Task → List ℕ
task_rows (task.Recheck rows) = rows
task_rows _ = []
