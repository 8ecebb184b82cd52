-- The first row that is bad has one index.
use Rattle.std.proofs.Common.{ℕ, ◌≡◌, ◌<◌, inl, inr, List, arith}
use Rattle.std.proofs.lemmas.Bool.{cases_lt}
use Rattle.report_csv.specs.CsvRows.{Fields}
use Rattle.plan_situations.specs.declared.situation.Situation.{Situation}
use Rattle.refutation_check.specs.CheckedRows.{IsFirstBadRow}

module _ (s : Situation) (rows : List Fields) where
  not_later : (k l : ℕ) → IsFirstBadRow s rows k → IsFirstBadRow s rows l → ¬ (k < l)
  not_later k l one other less = let within = other.within in one.here (omega arith) (other.before k less)

  pub one_index : (k l : ℕ) → IsFirstBadRow s rows k → IsFirstBadRow s rows l → k ≡ l
  one_index k l one other = elim (cases_lt k l) [
    | inl less ↦ absurd (not_later k l one other less)
    | inr no_less ↦ elim (cases_lt l k) [
      | inl less ↦ absurd (not_later l k other one less)
      | inr no_more ↦ omega arith
    ]
  ]
