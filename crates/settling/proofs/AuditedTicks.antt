-- An audit as one who takes ticks.
use Rattle.std.proofs.Common.{ℕ, ◌≡◌, ◌+◌, ◌-◌, [], ◌∷◌, ◌++◌, List, length, length-append, sym, subst, ◌∙◌, arith, Vec, Global}
use Rattle.std.specs.Prelude.{Result, Ok, Err, IfOk, OnOk}
use Rattle.std.specs.List.Sorted.{IsStrictlySortedBy}
use Rattle.audit_rows.specs.declared.row.Row.{Row}
use Rattle.auditor.specs.AuditRows.{AreAuditRowsBelow}
use Rattle.auditor.specs.SettledRows.{settled_by}
use Rattle.auditor.specs.Standing.{IsSound, StandsFor as AuditStandsFor, given_of, last_tick_of}
use Rattle.auditor.specs.declared.audit.Audit.{Audit}
use Rattle.log_lines.specs.SentLines.{sent}
use Rattle.scenario_values.specs.declared.values.Scenario.{Scenario}
use Rattle.settled_ticks.specs.Sightings.{seen_first}
use Rattle.settled_ticks.specs.Standing.{handed_out}
use Rattle.settled_ticks.specs.declared.settled_ticks.SettledTicks.{SettledTicks}
use Rattle.settling.specs.DecidedRows.{AreDecided}
use Rattle.settling.specs.Inner.AuditedTicks.{HasAudited, audit_taker}
use Rattle.settling.specs.Inner.TakenTicks.{HasTakenSettled, TakesNext}
use Rattle.settling.specs.ScenarioAudit.{audit_numbers}
use Rattle.settling.proofs.DecidedRows.{rows_by_settled_ticks}
use Rattle.traces.specs.Audited.{AuditNumbers, Sighting}
use Rattle.traces.specs.declared.fault.TickFault.{TickFault}
use Rattle.traces.specs.ManyTraces.{HaveMoreThan}
use Rattle.traces.specs.declared.all_traces.TheConstants.{MOST_TRACES}

no_rows : (numbers : AuditNumbers) → AreAuditRowsBelow numbers [] (settled_by numbers 0) []
unfolding IsStrictlySortedBy
no_rows numbers = record {
  each = λ row. ((λ i. absurd (let lt = i.1 in omega arith)), (λ h. absurd (let lt = h.1 in omega arith)));
  ordered = tt;
}

pub audited_none : (audit : Audit) (numbers : AuditNumbers) → AuditStandsFor audit numbers [] [] → HasAudited audit numbers [] []
audited_none audit numbers stands = record { stands = stands; rows = no_rows numbers }

-- One more tick, by the clauses of the audit's step.
audit_takes : (old new : Audit) (seen : Sighting) (rows : List Row) → IsSound new → given_of new ≡ given_of old + 1 → last_tick_of new ≡ last_tick_of old
    → ((numbers : AuditNumbers) (ticks : List Sighting) (given : List Row) → AuditStandsFor old numbers ticks given → AuditStandsFor new numbers (ticks ++ seen ∷ []) (given ++ rows))
    → ((numbers : AuditNumbers) (ticks : List Sighting) (given : List Row) → AuditStandsFor old numbers ticks given
    → AreAuditRowsBelow numbers (ticks ++ seen ∷ []) (settled_by numbers (length ticks)) (given ++ rows))
    → ((numbers : AuditNumbers) (ticks : List Sighting) (given : List Row) → AuditStandsFor old numbers ticks given → HaveMoreThan MOST_TRACES numbers (ticks ++ seen ∷ []) → ⊥)
    → TakesNext (audit_taker old) (audit_taker new) seen rows
audit_takes old new seen rows sound count last_tick stands below few = record {
  sound = sound;
  count = count;
  last_tick = last_tick;
  stands = λ numbers ticks given up.
      let were : length ticks ≡ length (ticks ++ seen ∷ []) - 1 = omega (arith, length-append ticks (seen ∷ [])) in
      record {
        stands = stands numbers ticks given up.stands;
        rows = subst (λ (n : ℕ). AreAuditRowsBelow numbers (ticks ++ seen ∷ []) (settled_by numbers n) (given ++ rows)) were (below numbers ticks given up.stands);
      };
  few = λ numbers ticks given up. few numbers ticks given up.stands;
}

pub audit_step : (old new : Audit) (seen : Sighting) (result : Result (Vec Row Global) TickFault) → OnOk result (IsSound new)
    → OnOk result (given_of new ≡ given_of old + 1) → OnOk result (last_tick_of new ≡ last_tick_of old)
    → IfOk result (λ rows. (numbers : AuditNumbers) (ticks : List Sighting) (given : List Row) → AuditStandsFor old numbers ticks given
    → AuditStandsFor new numbers (ticks ++ seen ∷ []) (given ++ rows.items))
    → IfOk result (λ rows. (numbers : AuditNumbers) (ticks : List Sighting) (given : List Row) → AuditStandsFor old numbers ticks given
    → AreAuditRowsBelow numbers (ticks ++ seen ∷ []) (settled_by numbers (length ticks)) (given ++ rows.items))
    → OnOk result ((numbers : AuditNumbers) (ticks : List Sighting) (given : List Row) → AuditStandsFor old numbers ticks given
    → HaveMoreThan MOST_TRACES numbers (ticks ++ seen ∷ []) → ⊥)
    → IfOk result (λ rows. TakesNext (audit_taker old) (audit_taker new) seen rows.items)
audit_step old new seen (Ok rows) sound count last_tick stands below few = audit_takes old new seen rows.items sound count last_tick stands below few
audit_step old new seen (Err fault) sound count last_tick stands below few = tt

-- ---- the rows that it has given

pub given_are_decided : (scenario : Scenario) (audit : Audit) (ticks : SettledTicks) (lines : List (List ℕ)) (given : List Row)
    → HasTakenSettled (audit_taker audit) ticks scenario lines given → AreDecided scenario lines given
given_are_decided scenario audit ticks lines given up =
    let numbers = audit_numbers scenario in
    let seen = seen_first scenario (sent scenario lines) (handed_out ticks) in
    let count : length seen ≡ handed_out ticks = sym up.taken.stands.stands.window.stands.count ∙ up.taken.next in
    rows_by_settled_ticks scenario lines (handed_out ticks) given up.settled
    (subst (λ (n : ℕ). AreAuditRowsBelow numbers seen (settled_by numbers (n - 1)) given) count up.taken.stands.rows)
