-- How far a run has come when it gives an answer: one row a status.
use Rattle.std.specs.Prelude.{Bool, true, false}
use Rattle.colregs_program.specs.declared.status.Status.{Status}
use Rattle.colregs_program.specs.declared.status.Status.TheVariants as status
use Rattle.colregs_program.specs.declared.status.Which.TheVariants as which

-- before the log is asked for; in the log, whose lines so far may have been written of; at its end, where the mode writes nothing before; in a
-- write; with the whole report written; or anywhere
pub data Stage : Type 0 where
  before_log : Stage
  in_log : Stage
  at_end : Stage
  in_write : Stage
  at_finish : Stage
  anywhere : Stage

abbrev pub stage_of : Status → Stage
stage_of status.Usage = before_log
stage_of status.ShelfFault = before_log
stage_of (status.Scenario key cause) = before_log
stage_of (status.Limit which.Scenario most) = before_log
stage_of (status.Limit which.Rows most) = before_log
stage_of (status.Limit which.Targets most) = at_end
stage_of (status.Limit passed most) = in_log
stage_of status.ReadFault = in_log
stage_of (status.OwnUnready why) = at_end
stage_of (status.BadEntry index) = at_end
stage_of status.WriteFault = in_write
stage_of status.Done = at_finish
stage_of status.NoManoeuvre = at_finish
stage_of status.Memory = anywhere

abbrev pub is_before_log : Stage → Bool
is_before_log before_log = true
is_before_log _ = false

abbrev pub is_in_log : Stage → Bool
is_in_log in_log = true
is_in_log _ = false

abbrev pub is_at_end : Stage → Bool
is_at_end at_end = true
is_at_end _ = false

abbrev pub is_at_finish : Stage → Bool
is_at_finish at_finish = true
is_at_finish _ = false
