-- The rows that the lines so far decide are those of the settled ticks, and a front of the report's.
use Rattle.std.proofs.Common.{◌≡◌, ℕ, ◌+◌, ◌-◌, ◌<◌, ◌≤◌, List, ◌++◌, arith}
use Rattle.std.specs.Prelude.{◌↔◌}
use Rattle.std.specs.List.{Contains}
use Rattle.std.specs.declared.cmp.Ordering.TheVariants.{Less}
use Rattle.audit_rows.specs.Order.{InOrder, last_step_of, place_cmp, sort_key_of}
use Rattle.audit_rows.specs.declared.row.Row.{Row}
use Rattle.audit_rows.specs.declared.sort_key.SortKey.{SortKey}
use Rattle.audit_rows.proofs.ForCallers.{earlier_first, place_total, same_list}
use Rattle.auditor.specs.AuditRows.{AreAuditRows, AreAuditRowsBelow, IsAuditRow}
use Rattle.auditor.specs.SettledRows.{audit_reach, settled_by}
use Rattle.log_lines.specs.SentLines.{sent}
use Rattle.scenario_values.specs.declared.values.Scenario.{Scenario}
use Rattle.settled_ticks.specs.Settled.{IsSettled}
use Rattle.settled_ticks.specs.Sightings.{seen_first, sighted}
use Rattle.settled_ticks.proofs.ForCallers.{settled_ticks_stay}
use Rattle.traces.specs.Audited.{Sighting}
use Rattle.settling.specs.DecidedRows.{AreDecided}
use Rattle.settling.specs.ScenarioAudit.{audit_numbers}
use Rattle.settling.proofs.DecidedItems.{begin_all, by_all, by_first}
use Rattle.settling.proofs.Fronts.{no_later}
use Rattle.settling.proofs.SameRows.{same_row}

module _ (scenario : Scenario) where
  abbrev IsRowBy : List Sighting → Row → Type 0
  IsRowBy = IsAuditRow (audit_numbers scenario)

  -- the tick that decides a row
  abbrev decided_at : Row → ℕ
  decided_at row = last_step_of row + audit_reach (audit_numbers scenario) + 2

  earlier : (x y : Row) → place_cmp (sort_key_of y) (sort_key_of x) ≡ Less → decided_at y ≤ decided_at x
  earlier x y before =
      let le : last_step_of y ≤ last_step_of x = no_later place_cmp place_total (λ (key : SortKey). key.last) earlier_first (sort_key_of y) (sort_key_of x) before in
      omega (arith, le)

  rows_begin : (lines more : List (List ℕ)) (rows all : List Row) → AreDecided scenario lines rows → InOrder all
      → ((row : Row) → IsRowBy (sighted scenario (sent scenario (lines ++ more))) row → IsSettled scenario lines (decided_at row) → Contains all row)
      → ((row : Row) → Contains all row → IsRowBy (sighted scenario (sent scenario (lines ++ more))) row) → (rest : List Row) × (all ≡ rows ++ rest)
  rows_begin lines more rows all h =
      begin_all scenario IsRowBy decided_at (same_row (audit_numbers scenario)) place_cmp place_total sort_key_of earlier lines more rows all h.each h.ordered

-- ---- the laws

pub rows_by_settled_ticks : (scenario : Scenario) (lines : List (List ℕ)) (s : ℕ) (rows : List Row) → ((i : ℕ) → IsSettled scenario lines i ↔ (i < s))
    → AreAuditRowsBelow (audit_numbers scenario) (seen_first scenario (sent scenario lines) s) (settled_by (audit_numbers scenario) (s - 1)) rows
    → AreDecided scenario lines rows
rows_by_settled_ticks scenario lines s rows settled h = record {
  each = λ row. (
    λ i. let is = (h.each row).0 i in
        let below = is.1 in
        let lt : decided_at scenario row < s = omega arith in
        let at = (settled (decided_at scenario row)).1 lt in
        (by_all scenario (IsRowBy scenario) (decided_at scenario) (same_row (audit_numbers scenario)) lines s row at lt is.0, at),
    λ is. let lt : decided_at scenario row < s = (settled (decided_at scenario row)).0 is.1 in
        (h.each row).1 (by_first scenario (IsRowBy scenario) (decided_at scenario) (same_row (audit_numbers scenario)) lines s row is.1 lt is.0, omega arith),
  );
  ordered = h.ordered;
}

pub one_list_of_decided_rows : (scenario : Scenario) (lines : List (List ℕ)) (rows others : List Row) → AreDecided scenario lines rows → AreDecided scenario lines others
    → rows ≡ others
one_list_of_decided_rows scenario lines rows others h k =
    same_list sort_key_of place_cmp place_total rows others h.ordered k.ordered (λ row i. (k.each row).1 ((h.each row).0 i)) (λ row i. (h.each row).1 ((k.each row).0 i))

pub decided_rows_are_a_front : (scenario : Scenario) (lines more : List (List ℕ)) (rows later : List Row) → AreDecided scenario lines rows
    → AreDecided scenario (lines ++ more) later → (rest : List Row) × (later ≡ rows ++ rest)
decided_rows_are_a_front scenario lines more rows later h k =
    rows_begin scenario lines more rows later h k.ordered
    (λ row is settled. (k.each row).1 (is, settled_ticks_stay scenario lines more (decided_at scenario row) settled))
    (λ row i. ((k.each row).0 i).0)

pub decided_rows_begin_the_report : (scenario : Scenario) (lines more : List (List ℕ)) (rows all : List Row) → AreDecided scenario lines rows
    → AreAuditRows (audit_numbers scenario) (sighted scenario (sent scenario (lines ++ more))) all → (rest : List Row) × (all ≡ rows ++ rest)
decided_rows_begin_the_report scenario lines more rows all h k =
    rows_begin scenario lines more rows all h k.ordered (λ row is settled. (k.each row).1 is) (λ row i. (k.each row).0 i)
