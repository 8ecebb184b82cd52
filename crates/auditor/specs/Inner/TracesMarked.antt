-- What an audit keeps of all traces: the values of the rules' formulas, and the queue of their rows.
use Rattle.std.specs.Prelude.{ℕ, ◌≤◌, ◌++◌, List, length, drop}
use Rattle.std.specs.List.{AllZip}
use Rattle.mtl_monitor.specs.Following.{IsProgramOf, count_of}
use Rattle.mtl_monitor.specs.declared.program.Program.{Program}
use Rattle.audit_rows.specs.Rows.{AreRows}
use Rattle.audit_rows.specs.Standing.{HaveOwnTopics, QueueStandsFor}
use Rattle.audit_rows.specs.Tracks.{Track}
use Rattle.audit_rows.specs.declared.row.Row.{Row}
use Rattle.audit_rows.specs.declared.row_queue.RowQueue.{RowQueue}
use Rattle.traces.specs.Audited.{AuditNumbers}
use Rattle.traces.specs.Keeping.{Keeper}
use Rattle.traces.specs.Known.{Known}
use Rattle.auditor.specs.Inner.AuditKeeping.{AreAllTracks, AreTracksOfAll}
use Rattle.auditor.specs.SettledRows.{formulas_of, settled_by}
use Rattle.auditor.specs.Tallies.{AreTallies}
use Rattle.auditor.specs.TraceKeeping.{AreRuleMarksWhole, StandsFor}
use Rattle.auditor.specs.TraceKeeping as trace
use Rattle.auditor.specs.declared.audit_keeper.AuditKeeper.{AuditKeeper}
use Rattle.auditor.specs.declared.total.Total.{Total}
use Rattle.auditor.specs.declared.trace.AuditTrace.{AuditTrace}

-- The values and the queue stand for these traces. The rows were given that the ticks before the step decide.
pub record AreMarked (program : Program) (queue : RowQueue) (numbers : AuditNumbers) (step : ℕ) (values : List AuditTrace) (done rest : List Known) (given : List Row) : Type 0 where
  pub is : IsProgramOf program (formulas_of numbers)
  pub stand : AllZip (StandsFor program numbers) values (done ++ rest)
  pub before : List Track
  pub after : List Track
  pub done_tracks : AreAllTracks numbers done before
  pub rest_tracks : AreAllTracks numbers rest after
  pub keeps : QueueStandsFor queue (before ++ after) (settled_by numbers step) given

-- The tracks of the traces that have ended have marks at all positions.
pub record AreEnding (program : Program) (queue : RowQueue) (numbers : AuditNumbers) (step : ℕ) (values : List AuditTrace) (ended rest : List Known) (given : List Row) : Type 0 where
  pub is : IsProgramOf program (formulas_of numbers)
  pub stand : AllZip (StandsFor program numbers) (drop (length ended) values) rest
  pub before : List Track
  pub after : List Track
  pub ended_tracks : AreTracksOfAll AreRuleMarksWhole numbers ended before
  pub rest_tracks : AreAllTracks numbers rest after
  pub keeps : QueueStandsFor queue (before ++ after) (settled_by numbers step) given

abbrev pub audit_keeper : AuditKeeper → Keeper AuditTrace (List Row)
audit_keeper keeper = record {
  Sound = count_of keeper.program ≤ 17;
  Ready = trace.IsReady keeper.program;
  steps = trace.steps_of;
  Stands = AreMarked keeper.program keeper.queue;
  Ends = AreEnding keeper.program keeper.queue;
}

-- ---- the end

-- The rows and the totals are those of the traces with marks at all positions.
pub record AreEnded (numbers : AuditNumbers) (knowns : List Known) (rows : List Row) (totals : List Total) : Type 0 where
  pub tracks : List Track
  pub are_tracks : AreTracksOfAll AreRuleMarksWhole numbers knowns tracks
  pub own_topics : HaveOwnTopics tracks
  pub are_rows : AreRows tracks rows
  pub are_totals : AreTallies totals (length numbers.rules) tracks
