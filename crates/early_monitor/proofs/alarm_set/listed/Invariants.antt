use Rattle.std.proofs.Common.{◌≡◌, ◌++◌}
use Rattle.early_monitor.proofs.alarm_set.listed.Given as goal

abbrev pub invariant-loop-alarm : goal.invariant-loop-alarm
invariant-loop-alarm l = l.list.items ++ l.alarm-iterator ≡ l.fn.alarms.keys
