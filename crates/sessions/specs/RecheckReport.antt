-- The report of `recheck`: that there is no plan, where rows say rightly why.
use Rattle.std.specs.Prelude.{ℕ, ◌≡◌, List}
use Rattle.report_csv.specs.CsvRows.{row_of}
use Rattle.audit_report.specs.ReportRows.{no_plan_fields}
use Rattle.lattice.specs.Grids.{plans_of}
use Rattle.refutation_check.specs.CheckedRows.{why_rows, AreRight}
use Rattle.plan_situations.specs.LeastPlans.{AllFail}
use Rattle.plan_situations.specs.declared.readiness.Ready.{Ready}
use Rattle.scenario_values.specs.declared.own_part.OwnPart.{OwnPart}
use Rattle.scenario_values.specs.declared.values.Scenario.{Scenario}
use Rattle.sessions.specs.PlanReport.{IsOwn, situation_on}

-- The rows `why` of a text are right on a log, so that every plan fails, and the report says that there is none.
pub record IsRecheckReport (rows : List ℕ) (scenario : Scenario) (log text : List ℕ) : Type 0 where
  pub own : OwnPart
  pub ready : Ready
  pub is_own : IsOwn scenario log own ready
  pub right : AreRight (situation_on scenario log own ready) (why_rows rows)
  pub fail : AllFail (situation_on scenario log own ready)
  pub is : text ≡ row_of (no_plan_fields (plans_of own.lattice))
