-- What a session stands for.
use Rattle.std.specs.Prelude.{ℕ, ◌≡◌, length, List, IsSome, IsTrue}
use Rattle.audit_rows.specs.declared.row.Row.{Row}
use Rattle.log_lines.specs.GrowingLog.{ended_lines}
use Rattle.scenario_values.specs.ValueRanges.{IsInRange}
use Rattle.scenario_values.specs.declared.values.Scenario.{Scenario}
use Rattle.settled_ticks.specs.Standing.{RemembersTicks}
use Rattle.settling.specs.Standing.{StandsFor as AuditStandsFor, audited_ticks}
use Rattle.settling.specs.WatchStanding.{StandsFor as WatchStandsFor, watched_ticks}
use Rattle.log_lines.specs.Standing.{LinesStandFor, kept_of}
use Rattle.tracks.specs.declared.keeping.Keeping.{Keeping}
use Rattle.tracks.specs.declared.keeping.Keeping.TheVariants.{Latest, Tracks}
use Rattle.tasks.specs.declared.mode.Mode.{Mode}
use Rattle.tasks.specs.declared.mode.Mode.TheVariants as mode
use Rattle.tasks.specs.Modes.{needs_own}
use Rattle.sessions.specs.Refusals.{IsUnrefused}
use Rattle.sessions.specs.SettledText.{IsDecidedText, IsSettledText}
use Rattle.sessions.specs.declared.session.Session.{Session}
use Rattle.sessions.specs.declared.work.Work.{Work}
use Rattle.sessions.specs.declared.work.Work.TheVariants as work

-- the mode that does this work
abbrev pub mode_by : Work → Mode
mode_by work.Points = mode.Points
mode_by (work.Audit audit) = mode.Audit
mode_by work.Plan = mode.Plan
mode_by (work.Drill audit) = mode.Drill
mode_by work.Recheck = mode.Recheck
mode_by (work.Watch watch) = mode.Watch

abbrev pub mode_of : Session → Mode
mode_of session = mode_by session.work

abbrev pub session_scenario : Session → Scenario
session_scenario session = session.scenario

-- how many bytes it was fed
abbrev pub taken_of : Session → ℕ
taken_of session = session.taken

-- how much the work needs kept of each vessel at its beginning
abbrev pub keeping_by : Work → Keeping
keeping_by work.Points = Latest
keeping_by (work.Audit audit) = Tracks
keeping_by work.Plan = Tracks
keeping_by (work.Drill audit) = Tracks
keeping_by work.Recheck = Tracks
keeping_by (work.Watch watch) = Tracks

-- What is stored of each vessel is enough for the work: an audit, a drill and a watch look back no further than the latest tick that they took.
abbrev pub KeepsEnough : Work → Scenario → Keeping → Type 0
KeepsEnough work.Points scenario keeping = keeping ≡ Latest
KeepsEnough (work.Audit audit) scenario keeping = RemembersTicks keeping scenario (audited_ticks audit)
KeepsEnough work.Plan scenario keeping = keeping ≡ Tracks
KeepsEnough (work.Drill audit) scenario keeping = RemembersTicks keeping scenario (audited_ticks audit)
KeepsEnough work.Recheck scenario keeping = keeping ≡ Tracks
KeepsEnough (work.Watch watch) scenario keeping = RemembersTicks keeping scenario (watched_ticks watch)

-- An audit has audited the ticks that the lines settle, and the text has the rows that it has given; a watch has watched them, and the text has
-- its alarms. A drill has audited them, and the text has no rows.
abbrev pub HasAudited : (work : Work) (scenario : Scenario) (lines : List (List ℕ)) (given : List ℕ) → IsDecidedText (mode_by work) scenario lines given → Type 0
HasAudited work.Points scenario lines given decided = Unit {0}
HasAudited (work.Audit audit) scenario lines given decided = AuditStandsFor audit scenario lines decided.0
HasAudited work.Plan scenario lines given decided = Unit {0}
HasAudited (work.Drill audit) scenario lines given decided = (rows : List Row) × AuditStandsFor audit scenario lines rows
HasAudited work.Recheck scenario lines given decided = Unit {0}
HasAudited (work.Watch watch) scenario lines given decided = WatchStandsFor watch scenario lines decided.0

-- The session was fed these bytes of a log, no front of them is refused, and it has given what they settle.
pub record StandsFor (session : Session) (fed given : List ℕ) : Type 0 where
  pub in_range : IsInRange session.scenario
  pub own : IsTrue (needs_own (mode_by session.work)) → IsSome session.scenario.own
  pub lines : LinesStandFor session.lines session.scenario fed
  pub kept : KeepsEnough session.work session.scenario (kept_of session.lines)
  pub taken : session.taken ≡ length fed
  pub unrefused : IsUnrefused (mode_by session.work) session.scenario fed
  pub settled : IsSettledText (mode_by session.work) session.scenario fed given
  pub audited : HasAudited session.work session.scenario (ended_lines fed) given settled

-- It stands for some bytes.
pub record IsInUse (session : Session) : Type 0 where
  pub fed : List ℕ
  pub given : List ℕ
  pub stands : StandsFor session fed given
