use Rattle.std.proofs.Common.{◌≡◌}
use Rattle.traces.specs.Audited.{MoveLittle}
use Rattle.early_monitor.specs.Watching.{IsSound, given_of, last_tick_of, latest_vessels}
use Rattle.auditor_rows.specs.WorkedMeeting.{head_on_at}
use Rattle.auditor_rows.proofs.alarms.take_all.Given as goal

abbrev pub invariant-loop-k : goal.invariant-loop-k
invariant-loop-k l = record {
  sound : IsSound l.watch;
  at : given_of l.watch ≡ l.k;
  last : last_tick_of l.watch ≡ 40;
  moves : MoveLittle (latest_vessels l.watch) (head_on_at l.k);
}
