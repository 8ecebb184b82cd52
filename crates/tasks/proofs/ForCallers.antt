-- What a caller may conclude of a mode from its row.
use Rattle.std.proofs.Common.{ℕ, ◌≡◌, ◌≤◌, Bool, false, List, refl, ap, arith}
use Rattle.tasks.specs.Modes.{early_focus, nothing, reads_log}
use Rattle.tasks.specs.Tasks.{task_by, task_seed}
use Rattle.tasks.specs.declared.mode.Mode.{Mode}
use Rattle.tasks.specs.declared.mode.Mode.TheVariants as mode

-- the seed of a task is the one that is given, or 0
pub seed_within : (m : Mode) (seed : ℕ) (why : Bool) (rows : List ℕ) (most : ℕ) → seed ≤ most → task_seed (task_by m seed why rows) ≤ most
seed_within mode.Points seed why rows most within = omega arith
seed_within mode.Audit seed why rows most within = omega arith
seed_within mode.Plan seed why rows most within = omega arith
seed_within mode.Drill seed why rows most within = within
seed_within mode.Recheck seed why rows most within = omega arith
seed_within mode.Watch seed why rows most within = omega arith

-- a log is made for a drill alone
pub makes_drill : (m : Mode) → reads_log m ≡ false → m ≡ mode.Drill
makes_drill mode.Points makes = cc makes
makes_drill mode.Audit makes = cc makes
makes_drill mode.Plan makes = cc makes
makes_drill mode.Drill makes = refl
makes_drill mode.Recheck makes = cc makes
makes_drill mode.Watch makes = cc makes

-- of a log that is made, nothing is examined before its end
pub made_at_end : (m : Mode) → reads_log m ≡ false → early_focus m ≡ nothing
made_at_end m makes = ap early_focus (makes_drill m makes)
