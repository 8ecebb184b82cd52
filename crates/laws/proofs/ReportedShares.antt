-- A scenario's subjects change nothing in what its log shows, so its shares are those of one audit.
use Rattle.std.proofs.Common.{◌≡◌, ℕ, List, [], ◌++◌, refl, sym, ap, subst, ◌∙◌}
use Rattle.std.specs.Prelude.{◌↔◌}
use Rattle.std.specs.List.{Contains}
use Rattle.audit_rows.specs.declared.row.Row.{Row}
use Rattle.auditor.specs.AuditRows.{AreAuditRows}
use Rattle.auditor.proofs.ForCallers.{one_list_of_rows}
use Rattle.log_lines.specs.LineTimes.{clock_of, time_of}
use Rattle.log_lines.specs.SentLines.{heard, heard_of, sent, sent_of}
use Rattle.scenario_values.specs.declared.values.Scenario.{Scenario}
use Rattle.sessions.specs.AuditReport.{IsAuditReport, rows_behind, sightings_of}
use Rattle.audit_report.specs.StretchRows.{stretch_rows}
use Rattle.settled_ticks.specs.Sightings.{sighting_by, vessel_rank}
use Rattle.settling.specs.ScenarioAudit.{audit_numbers}
use Rattle.traces.specs.Audited.{Sighting}
use Rattle.laws.specs.Reported.{AreReported}
use Rattle.laws.specs.Subjects.{AreJoined, AreShares, CoverAllSeen, Share, for_subjects, of_all, with_subjects}
use Rattle.laws.proofs.Joining.{joined_are_whole, some_joined}

pub same_sightings : (scenario : Scenario) (subjects log : List ℕ) → sightings_of (with_subjects subjects scenario) log ≡ sightings_of scenario log
unfolding sightings_of sighting_by vessel_rank sent sent_of heard heard_of time_of clock_of
same_sightings scenario subjects log = refl

module _ (scenario : Scenario) (log : List ℕ) (shares : List Share) (are : AreShares scenario log shares) where
  audited : (share : Share) → Contains shares share → AreAuditRows (for_subjects share.group (audit_numbers scenario)) (sightings_of scenario log) share.rows
  audited share inside =
      subst (λ (ticks : List Sighting). AreAuditRows (for_subjects share.group (audit_numbers scenario)) ticks share.rows) (same_sightings scenario share.group log) (are share inside)

  pub some : (rows : List Row) × AreJoined shares rows
  some = some_joined (audit_numbers scenario) (sightings_of scenario log) shares audited

  pub whole : CoverAllSeen scenario log shares → (rows : List Row) → AreJoined shares rows ↔ AreReported (of_all scenario) log rows
  whole cover rows =
      subst (λ (ticks : List Sighting). AreJoined shares rows ↔ AreAuditRows (for_subjects [] (audit_numbers scenario)) ticks rows) (sym (same_sightings scenario [] log))
      (joined_are_whole (audit_numbers scenario) (sightings_of scenario log) shares audited cover rows)

  pub text_begins : (text : List ℕ) (rows : List Row) → CoverAllSeen scenario log shares → AreJoined shares rows → IsAuditReport (of_all scenario) log text
      → (behind : List ℕ) × (text ≡ stretch_rows scenario.rules rows ++ behind)
  text_begins text rows cover joined report =
      let same : report.rows ≡ rows = one_list_of_rows (audit_numbers (of_all scenario)) (sightings_of (of_all scenario) log) report.rows rows report.are_rows ((whole cover rows).0 joined) in (
        rows_behind (of_all scenario) log report.totals,
        report.is ∙ ap (λ (told : List Row). stretch_rows scenario.rules told ++ rows_behind (of_all scenario) log report.totals) same,
      )
