-- The rows of what the rules come to.
use Rattle.std.proofs.Common.{ℕ, zero, suc, ◌≡◌, ◌+◌, ◌<◌, List, [], ◌∷◌, ◌++◌, length, take, append_assoc, append-nil, sym, ap, ◌∙◌, arith}
use Rattle.std.proofs.Math.ListN.{get_or}
use Rattle.report_csv.specs.CsvRows.{row_of}
use Rattle.audit_report.specs.ReportRows.{total_fields}
use Rattle.auditor.specs.declared.total.Total.{Total}
use Rattle.rule_set.specs.NamedTrees.{NamedTree, rule_at}
use Rattle.audit_report.specs.TotalRows.{total_rows}

-- what each of the first rules comes to, and one more
totals_more : (rules : List NamedTree) (totals : List Total) (k : ℕ) (d : Total) → k < length rules → length totals ≡ length rules
    → total_rows (take k rules) (take k totals) ++ row_of (total_fields (rule_at rules k).name (get_or totals k d))
    ≡ total_rows (take (suc k) rules) (take (suc k) totals)
totals_more [] totals k d lt same = absurd (omega arith)
totals_more (rule ∷ rules) [] k d lt same = absurd (omega arith)
totals_more (rule ∷ rules) (total ∷ totals) zero d lt same = sym (append-nil (row_of (total_fields rule.name total)))
totals_more (rule ∷ rules) (total ∷ totals) (suc k) d lt same =
    append_assoc (row_of (total_fields rule.name total)) (total_rows (take k rules) (take k totals)) (row_of (total_fields (rule_at rules k).name (get_or totals k d)))
    ∙ ap (λ (l : List ℕ). row_of (total_fields rule.name total) ++ l) (totals_more rules totals k d (omega arith) (omega arith))

totals_push : (rules : List NamedTree) (totals : List Total) (k : ℕ) (d : Total) → k < length rules → length totals ≡ length rules
    → total_rows (take k rules) (take k totals) ++ row_of (total_fields (rule_at rules k).name (get_or totals k d))
    ≡ total_rows (take (k + 1) rules) (take (k + 1) totals)
totals_push rules totals k d lt same =
    let next : suc k ≡ k + 1 = omega arith in
    totals_more rules totals k d lt same ∙ ap (λ (n : ℕ). total_rows (take n rules) (take n totals)) next

-- what the first rules come to, and one more
pub one_total_on : (rules : List NamedTree) (totals : List Total) (front : List ℕ) (k : ℕ) (name : List ℕ) (d : Total) → k < length rules → length totals ≡ length rules
    → name ≡ (rule_at rules k).name
    → (front ++ total_rows (take k rules) (take k totals)) ++ row_of (total_fields name (get_or totals k d)) ≡ front ++ total_rows (take (k + 1) rules) (take (k + 1) totals)
one_total_on rules totals front k name d lt same named =
    append_assoc front (total_rows (take k rules) (take k totals)) (row_of (total_fields name (get_or totals k d)))
    ∙ ap (λ (l : List ℕ). front ++ l)
    (ap (λ (n : List ℕ). total_rows (take k rules) (take k totals) ++ row_of (total_fields n (get_or totals k d))) named ∙ totals_push rules totals k d lt same)
