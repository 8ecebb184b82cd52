-- What a task comes to on a scenario and a log at its end: its report, or why there is none.
use Rattle.std.specs.Prelude.{ℕ, ◌≡◌, ◌<◌, ◌⊎◌, IsTrue, Bool, true, false, List, length, Option, Some, None, Result, Ok, Err}
use Rattle.traces.specs.ManyTraces.{HaveMoreThan}
use Rattle.log_lines.specs.JudgedLines.{is_crowded, numbers_of}
use Rattle.log_lines.specs.LogLines.{lines_of}
use Rattle.plan_situations.specs.PlanSituations.{greatest_targets, own_readiness, targets_near}
use Rattle.plan_situations.specs.declared.readiness.Ready.{Ready}
use Rattle.plan_situations.specs.declared.readiness.Unready.{Unready}
use Rattle.plan_situations.specs.LeastPlans.{AllFail}
use Rattle.refutation_check.specs.CheckedRows.{IsFirstBadRow, why_rows}
use Rattle.scenario_values.specs.declared.own_part.OwnPart.{OwnPart}
use Rattle.scenario_values.specs.declared.values.Scenario.{Scenario}
use Rattle.sessions.specs.AuditReport.{IsAuditReport, sightings_of}
use Rattle.sessions.specs.DrillReport.{IsDrillReport}
use Rattle.tasks.specs.Modes.{Focus, OfOwnShip, OfTicks, WhereChecked, WhereSought, focus_of, needs_rows, own_ship}
use Rattle.sessions.specs.PlanReport.{IsOwn, IsPlanReport, log_messages, situation_on}
use Rattle.sessions.specs.PointsReport.{points_report}
use Rattle.tasks.specs.declared.mode.Mode.{Mode}
use Rattle.tasks.specs.declared.mode.Mode.TheVariants as mode
use Rattle.sessions.specs.declared.session_fault.SessionFault.{SessionFault}
use Rattle.sessions.specs.RecheckReport.{IsRecheckReport}
use Rattle.sessions.specs.Tasks.{Task}
use Rattle.sessions.specs.WatchReport.{IsWatchReport}
use Rattle.sessions.specs.declared.session_fault.SessionFault.TheVariants as fault
use Rattle.traces.specs.declared.all_traces.TheConstants.{MOST_TRACES}
use Rattle.settling.specs.ScenarioAudit.{audit_numbers}

-- The text is a mode's report, which says why every plan fails if that is asked for, or that there is no plan if these rows say so rightly.
abbrev pub IsReport : Mode → Bool → List ℕ → Scenario → List ℕ → List ℕ → Type 0
IsReport mode.Points why rows scenario log text = text ≡ points_report scenario log
IsReport mode.Audit why rows scenario log text = IsAuditReport scenario log text
IsReport mode.Plan why rows scenario log text = IsPlanReport why scenario log text
IsReport mode.Drill why rows scenario log text = IsDrillReport scenario log text
IsReport mode.Recheck why rows scenario log text = IsRecheckReport rows scenario log text
IsReport mode.Watch why rows scenario log text = IsWatchReport scenario log text

-- The text is the report on a log that a task asks for.
abbrev pub IsEnding : Task → Scenario → List ℕ → List ℕ → Type 0
IsEnding task = IsReport task.mode task.why task.rows

-- ---- what prevents a report

-- More traces begin at the ticks of the window.
abbrev pub HasManyTraces : Mode → Scenario → List ℕ → Type 0
HasManyTraces mode scenario log = OfTicks (focus_of mode) (HaveMoreThan MOST_TRACES (audit_numbers scenario) (sightings_of scenario log))

-- what own ship lacks
abbrev pub lack_of : Result Ready Unready → Option Unready
lack_of (Ok ready) = None
lack_of (Err why) = Some why

abbrev pub lack_where : Scenario → List ℕ → Option OwnPart → Option Unready
lack_where scenario log None = None
lack_where scenario log (Some own) = lack_of (own_readiness (numbers_of scenario) (log_messages scenario log) scenario own)

-- why own ship cannot be planned for, if she is to be
abbrev pub lack_by : Focus → Scenario → List ℕ → Option Unready
lack_by own_ship scenario log = lack_where scenario log scenario.own
lack_by _ scenario log = None

abbrev pub unready_of : Mode → Scenario → List ℕ → Option Unready
unready_of mode = lack_by (focus_of mode)

-- P holds of own ship, who is ready.
abbrev pub OfOwn : Scenario → List ℕ → (OwnPart → Ready → Type 0) → Type 0
OfOwn scenario log P = (own : OwnPart) × (ready : Ready) × IsOwn scenario log own ready × P own ready

-- More vessels are her targets than are planned for.
abbrev pub MeetsTargetLimit : Mode → Scenario → List ℕ → Type 0
MeetsTargetLimit mode scenario log = OfOwnShip (focus_of mode) (OfOwn scenario log (λ own ready.
    greatest_targets < length (targets_near (numbers_of scenario) (log_messages scenario log) scenario own ready)))

-- A plan of hers is sought, and every plan fails.
abbrev pub HasNoManoeuvre : Mode → Scenario → List ℕ → Type 0
HasNoManoeuvre mode scenario log =
    OfOwnShip (focus_of mode) (WhereSought (needs_rows mode) (OfOwn scenario log (λ own ready. AllFail (situation_on scenario log own ready))))

-- Rows are checked, and they are not right: this is the least index at which one is not, or their number if together they leave out a plan.
abbrev pub HasBadEntry : Mode → List ℕ → Scenario → List ℕ → ℕ → Type 0
HasBadEntry mode rows scenario log k =
    OfOwnShip (focus_of mode) (WhereChecked (needs_rows mode) (OfOwn scenario log (λ own ready. IsFirstBadRow (situation_on scenario log own ready) (why_rows rows) k)))

-- ---- what a log results in

-- Why there is no report; or that there is one, and whether it is one without a manoeuvre.
abbrev pub Came : Type 0
Came = Result Bool SessionFault

-- The result is this if it holds, otherwise what follows.
abbrev pub First : Type 0 → Came → (Came → Type 0) → Came → Type 0
First Stands here Else came = (Stands × (came ≡ here)) ⊎ ((¬ Stands) × Else came)

abbrev pub FirstOf : (ℕ → Type 0) → (ℕ → Came) → (Came → Type 0) → Came → Type 0
FirstOf Stands here Else came = ((k : ℕ) × Stands k × (came ≡ here k)) ⊎ (((k : ℕ) → ¬ Stands k) × Else came)

abbrev pub Unless : Option Unready → (Came → Type 0) → Came → Type 0
Unless None Else came = Else came
Unless (Some why) Else came = came ≡ Err (fault.Own why)

-- What the lines of a log result in at its end: more vessels than are held, or else more traces than are kept; or else what own ship lacks,
-- or that she has more targets than are planned for, or that every plan of hers fails, or which of the rows that say so is not right; or else a report.
abbrev pub IsAnswerOf : Mode → List ℕ → Scenario → List ℕ → Came → Type 0
IsAnswerOf mode rows scenario log =
    First (IsTrue (is_crowded scenario (lines_of log))) (Err fault.Vessels)
    (First (HasManyTraces mode scenario log) (Err fault.Pairs)
    (Unless (unready_of mode scenario log)
    (First (MeetsTargetLimit mode scenario log) (Err fault.Targets)
    (First (HasNoManoeuvre mode scenario log) (Ok true)
    (FirstOf (HasBadEntry mode rows scenario log) (λ k. Err (fault.Entry k))
    (λ came. came ≡ Ok false))))))

abbrev pub IsAnswerTo : Task → Scenario → List ℕ → Came → Type 0
IsAnswerTo task = IsAnswerOf task.mode task.rows
