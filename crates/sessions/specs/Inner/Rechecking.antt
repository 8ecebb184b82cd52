-- What a check of rows results in for a situation.
use Rattle.std.specs.Prelude.{ℕ, ◌≡◌, List, false}
use Rattle.report_csv.specs.CsvRows.{row_of}
use Rattle.audit_report.specs.ReportRows.{no_plan_fields}
use Rattle.lattice.specs.Grids.{plans_of}
use Rattle.refutation_check.specs.CheckedRows.{AreRight, IsFirstBadRow, why_rows}
use Rattle.plan_situations.specs.LeastPlans.{AllFail}
use Rattle.plan_situations.specs.declared.situation.Situation.{Situation}
use Rattle.sessions.specs.declared.ending.Ending.{Ending}
use Rattle.sessions.specs.declared.session_fault.SessionFault.{SessionFault}
use Rattle.sessions.specs.declared.session_fault.SessionFault.TheVariants as fault

-- The rows of the text say rightly why, every plan fails, and the report says that.
pub record IsCheckedReport (situation : Situation) (text : List ℕ) (ending : Ending) : Type 0 where
  pub right : AreRight situation (why_rows text)
  pub fail : AllFail situation
  pub is : ending.bytes.items ≡ row_of (no_plan_fields (plans_of situation.lattice))
  pub search : ending.none ≡ false

-- The first row of the text that is bad is this one, unless memory ran out.
abbrev pub IsBadText : Situation → List ℕ → SessionFault → Type 0
IsBadText situation text (fault.Entry k) = IsFirstBadRow situation (why_rows text) k
IsBadText situation text fault.Memory = Unit {0}
IsBadText situation text _ = ⊥
