-- The rows of stretches, written one after the other.
use Rattle.std.proofs.Common.{ℕ, ◌≡◌, List, ◌++◌, sym, subst}
use Rattle.std.specs.Prelude.{All}
use Rattle.std.specs.List.{Contains}
use Rattle.std.proofs.lemmas.List.Elements.{All-contains, All-contains_itself, All-weaker, Contains-append_right}
use Rattle.audit_rows.specs.Order.{topic_of}
use Rattle.audit_rows.specs.declared.row.Row.{Row}
use Rattle.audit_rows.specs.declared.row.Row.TheVariants.{Meeting, Verdict}
use Rattle.audit_rows.specs.declared.topic.Topic.{Topic}
use Rattle.audit_rows.specs.declared.mark.Mark.{Mark}
use Rattle.auditor.specs.AuditTracks.{AreMarksOf}
use Rattle.traces.specs.Audited.{AuditNumbers, Sighting}
use Rattle.auditor.specs.AuditRows.{AreAuditRows, IsAuditRow}
use Rattle.log_lines.specs.SentLines.{sent}
use Rattle.scenario_values.specs.declared.values.Scenario.{Scenario}
use Rattle.settling.specs.DecidedRows.{AreDecided}
use Rattle.settled_ticks.specs.Sightings.{sighted}
use Rattle.settling.specs.ScenarioAudit.{audit_numbers}
use Rattle.audit_report.specs.StretchRows.{AreOfRules, IsOfRules}

-- ---- rows name rules that exist

of_topic : (numbers : AuditNumbers) (ticks : List Sighting) (topic : Topic) (first : ℕ) (marks : List Mark) (row : Row) → topic_of row ≡ topic
    → AreMarksOf numbers ticks topic first marks → IsOfRules numbers.rules row
of_topic numbers ticks topic first marks (Meeting pair kind from last least) same are = tt
of_topic numbers ticks topic first marks (Verdict pair rule undecided from last) same are =
    (subst (λ (t : Topic). AreMarksOf numbers ticks t first marks) (sym same) are).within

of_rules : (numbers : AuditNumbers) (ticks : List Sighting) (row : Row) → IsAuditRow numbers ticks row → IsOfRules numbers.rules row
of_rules numbers ticks row (track, both) = let (from, to, tells) = both.1 in of_topic numbers ticks track.topic track.first track.marks row tells.topic both.0

pub all_of : {X : Type 0} (P : X → Type 0) (xs : List X) → ((x : X) → Contains xs x → P x) → All P xs
all_of P xs h = All-weaker (Contains xs) P h xs (All-contains_itself xs)

pub rows_of_rules : (numbers : AuditNumbers) (ticks : List Sighting) (rows : List Row) → AreAuditRows numbers ticks rows → AreOfRules numbers.rules rows
rows_of_rules numbers ticks rows are = all_of (IsOfRules numbers.rules) rows (λ row i. of_rules numbers ticks row ((are.each row).0 i))

-- rows behind others
pub last_of_rules : (scenario : Scenario) (given rows : List Row) → AreOfRules scenario.rules (given ++ rows) → AreOfRules scenario.rules rows
last_of_rules scenario given rows all =
    all_of (IsOfRules scenario.rules) rows (λ row i. All-contains (IsOfRules scenario.rules) (given ++ rows) row all (Contains-append_right given rows row i))

pub rows_of_rules_decided : (scenario : Scenario) (lines : List (List ℕ)) (rows : List Row) → AreDecided scenario lines rows → AreOfRules scenario.rules rows
rows_of_rules_decided scenario lines rows are =
    all_of (IsOfRules scenario.rules) rows (λ row i. of_rules (audit_numbers scenario) (sighted scenario (sent scenario lines)) row ((are.each row).0 i).0)
