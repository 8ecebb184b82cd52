use Rattle.std.proofs.Common.{◌≡◌}
use Rattle.traces.specs.Audited.{MoveLittle}
use Rattle.auditor_rows.specs.WorkedMeeting.{seen_at}
use Rattle.auditor.specs.Standing.{IsSound, given_of, last_tick_of, latest_vessels}
use Rattle.auditor_rows.proofs.audits.take_all.Given as goal

abbrev pub invariant-loop-k : goal.invariant-loop-k
invariant-loop-k l = record {
  sound : IsSound l.audit;
  at : given_of l.audit ≡ l.k;
  last : last_tick_of l.audit ≡ l.ticks;
  moves : MoveLittle (latest_vessels l.audit) (seen_at l.encounter.still l.k);
}
