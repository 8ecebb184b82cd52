-- A report at a log's end.
use Rattle.std.proofs.Common.{ℕ, ◌≡◌, ◌≢◌, ◌<◌, ◌^◌, ◌++◌, List, [], length, append-nil, append_assoc, sym, ap, subst, arith, ◌∙◌}
use Rattle.std.proofs.lemmas.Grind.{flat_map-append}
use Rattle.report_csv.specs.CsvRows.{row_of}
use Rattle.audit_rows.specs.declared.row.Row.{Row}
use Rattle.auditor.specs.declared.total.Total.{Total}
use Rattle.auditor.specs.AuditRows.{AreAuditRows}
use Rattle.auditor.specs.AuditTotals.{AreTotals}
use Rattle.log_lines.specs.LogLines.{lines_of}
use Rattle.log_lines.specs.SentLines.{sent}
use Rattle.log_lines.proofs.ForCallers.{few_sent}
use Rattle.settled_ticks.specs.Standing.{RemembersTicks}
use Rattle.tracks.specs.declared.keeping.Keeping.{Keeping}
use Rattle.tracks.specs.declared.keeping.Keeping.TheVariants.{Latest}
use Rattle.log_lines.specs.Standing.{StandsFor as JudgeStandsFor}
use Rattle.log_lines.specs.declared.judge.Judge.{Judge}
use Rattle.scenario_values.specs.declared.values.Scenario.{Scenario}
use Rattle.settling.specs.ScenarioAudit.{audit_numbers}
use Rattle.settling.specs.Standing.{AreOfOneLog}
use Rattle.settling.specs.declared.settled_audit.SettledAudit.{SettledAudit}
use Rattle.sessions.specs.AuditReport.{IsAuditReport, rows_behind, sightings_of}
use Rattle.audit_report.specs.StretchRows.{stretch_fields, stretch_rows}
use Rattle.sessions.specs.Inner.AtEnd.{HasGiven, IsAuditAtEnd}

module _ {Item : Type 0} {Stands : List (List ℕ) → List Item → Type 0} (judge : Judge) (scenario : Scenario) (log : List ℕ) (given : List Item) (of : HasGiven Stands judge scenario log given) where
  pub judged_parts : JudgeStandsFor judge scenario (lines_of log ++ [])
  judged_parts = subst (JudgeStandsFor judge scenario) (sym (append-nil (lines_of log))) of.judged

-- no line more
pub of_whole : (log : List ℕ) (P : List (List ℕ) → Type 0) → P (lines_of log ++ []) → P (lines_of log)
of_whole log P holds = subst P (append-nil (lines_of log)) holds

-- No more messages than can be counted.
pub few_messages : (judge : Judge) (scenario : Scenario) (lines : List (List ℕ)) → JudgeStandsFor judge scenario lines → length (sent scenario lines) < 2 ^ 64
few_messages judge scenario lines stands = let few = stands.countable in omega (arith, few, few_sent scenario lines)

-- Where ticks are remembered, tracks are kept.
pub keeps_tracks : (keeping : Keeping) (scenario : Scenario) (count : ℕ) → RemembersTicks keeping scenario count → keeping ≢ Latest
keeps_tracks keeping scenario count remembers is = subst (λ (k : Keeping). RemembersTicks k scenario count) is remembers

pub of_one_log : (audit : SettledAudit) (judge : Judge) (scenario : Scenario) → IsAuditAtEnd audit judge scenario → AreOfOneLog audit scenario judge
of_one_log audit judge scenario at = record {
  lines = lines_of at.log;
  more = [];
  given = at.given;
  stands = at.is.stands;
  judged = judged_parts judge scenario at.log at.given at.is;
}

stretches_on : (scenario : Scenario) (given rows : List Row) → stretch_rows scenario.rules given ++ stretch_rows scenario.rules rows ≡ stretch_rows scenario.rules (given ++ rows)
stretches_on scenario given rows = sym (flat_map-append (λ (r : Row). row_of (stretch_fields scenario.rules r)) given rows)

-- behind what was given before, and what stands in the text
pub whole_report : (scenario : Scenario) (log before front : List ℕ) (given rows : List Row) (totals : List Total) (rest : List ℕ)
    → AreAuditRows (audit_numbers scenario) (sightings_of scenario log) (given ++ rows) → AreTotals (audit_numbers scenario) (sightings_of scenario log) (given ++ rows) totals
    → before ++ front ≡ stretch_rows scenario.rules given → rest ≡ front ++ (stretch_rows scenario.rules rows ++ rows_behind scenario log totals)
    → IsAuditReport scenario log (before ++ rest)
whole_report scenario log before front given rows totals rest are are_totals so_far is =
    let s = stretch_rows scenario.rules rows in
    let behind = rows_behind scenario log totals in
    record {
      rows = given ++ rows;
      totals = totals;
      are_rows = are;
      are_totals = are_totals;
      is = ap (λ (l : List ℕ). before ++ l) is
          ∙ sym (append_assoc before front (s ++ behind))
          ∙ ap (λ (l : List ℕ). l ++ (s ++ behind)) so_far
          ∙ sym (append_assoc (stretch_rows scenario.rules given) s behind)
          ∙ ap (λ (l : List ℕ). l ++ behind) (stretches_on scenario given rows);
    }
