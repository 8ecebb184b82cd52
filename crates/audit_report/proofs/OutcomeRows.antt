-- The rows of the outcomes, from the counts that are kept.
use Rattle.std.proofs.Common.{◌≡◌, ◌<◌, ◌≤◌, ℕ, ◌+◌, List, [], ◌∷◌, ◌++◌, length, take, flat_map, slice_index, append_assoc, append-nil, sym, ap, subst, ◌∙◌}
use Rattle.std.proofs.Math.ListN.{get_or}
use Rattle.std.proofs.lemmas.Grind.{flat_map-append}
use Rattle.std.proofs.lemmas.List.{take_all, take_more}
use Rattle.report_csv.specs.CsvRows.{row_of}
use Rattle.audit_report.specs.ReportRows.{count_fields}
use Rattle.audit_report.specs.ReportTexts.{HasText}
use Rattle.audit_report.specs.declared.report_text.ReportText.{ReportText}
use Rattle.log_lines.specs.LineOutcomes.{all_outcomes, outcome_index}
use Rattle.log_lines.specs.Standing.{AreCounts}
use Rattle.log_lines.specs.declared.judged.Judged.{Judged}
use Rattle.log_lines.specs.declared.outcome.LineOutcome.{LineOutcome}
use Rattle.log_lines.specs.declared.outcome.LineOutcome.TheVariants as outcomes
use Rattle.log_lines.proofs.ForCallers.{place_within}
use Rattle.audit_report.specs.OutcomeRows.{count_rows}

-- the rows of the counts are those of the outcomes
pub count_rows-from_counts : (counts : List ℕ) (lines : List Judged) (outcomes : List LineOutcome) → outcomes ≡ all_outcomes
    → AreCounts counts lines
    → flat_map (λ outcome. row_of (count_fields outcome (slice_index counts (outcome_index outcome)))) outcomes ≡ count_rows lines
count_rows-from_counts counts lines outcomes all are =
    ap (flat_map (λ outcome. row_of (count_fields outcome (slice_index counts (outcome_index outcome))))) all
    ∙ (λ i. flat_map (λ outcome. row_of (count_fields outcome (are.each (outcome_index outcome) (place_within outcome) i))) all_outcomes)

-- the row of an outcome
abbrev row : List ℕ → LineOutcome → List ℕ
row counts outcome = row_of (count_fields outcome (slice_index counts (outcome_index outcome)))

-- the rows of the first outcomes, and one more
pub one_row_on : (rows : ReportText) (text : List ℕ) (counts : List ℕ) (all : List LineOutcome) (i place : ℕ) → i < length all
    → place ≡ outcome_index (get_or all i outcomes.Empty)
    → HasText rows ((text ++ flat_map (λ outcome. row counts outcome) (take i all)) ++ row_of (count_fields (get_or all i outcomes.Empty) (slice_index counts place)))
    → HasText rows (text ++ flat_map (λ outcome. row counts outcome) (take (i + 1) all))
one_row_on rows text counts all i place within here has =
    let f : LineOutcome → List ℕ = λ outcome. row counts outcome in
    let next = get_or all i outcomes.Empty in
    let one : flat_map f (next ∷ []) ≡ f next = append-nil (f next) in
    let more : flat_map f (take (i + 1) all) ≡ flat_map f (take i all) ++ f next =
    ap (flat_map f) (take_more all i outcomes.Empty within) ∙ flat_map-append f (take i all) (next ∷ []) ∙ ap (λ l. flat_map f (take i all) ++ l) one in
    subst (HasText rows)
    (ap (λ k. (text ++ flat_map f (take i all)) ++ row_of (count_fields next (slice_index counts k))) here
    ∙ append_assoc text (flat_map f (take i all)) (f next) ∙ ap (λ l. text ++ l) (sym more))
    has

-- the rows of all outcomes
pub all_rows : (rows : ReportText) (text : List ℕ) (counts : List ℕ) (all : List LineOutcome) (i : ℕ) → length all ≤ i
    → HasText rows (text ++ flat_map (λ outcome. row counts outcome) (take i all)) → HasText rows (text ++ flat_map (λ outcome. row counts outcome) all)
all_rows rows text counts all i past has =
    subst (λ (l : List LineOutcome). HasText rows (text ++ flat_map (λ outcome. row counts outcome) l)) (take_all i all past) has
