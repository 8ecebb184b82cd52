-- The lines of a drill's log are read as the reports of its vessels.
use Rattle.std.proofs.Common.{ℕ, ◌≡◌, ◌≤◌, ◌<◌, ◌-◌, ◌+◌, ◌==◌, false, List, [], ◌∷◌, ◌++◌, length, map, flat_map, append_assoc, Some, None, Ok, refl, sym, ap, subst, ◌∙◌, arith}
use Rattle.std.specs.Prelude.{All, slice_index}
use Rattle.std.specs.List.{slice_split}
use Rattle.std.proofs.lemmas.Bool.Decides.{nat_tests}
use Rattle.std.proofs.lemmas.List.Elements.{All-head, All-map, All-tail, All-weaker}
use Rattle.std.proofs.lemmas.List.Splits.{slice_split_at}
use Rattle.aivdm.specs.PayloadBits.{bits_of}
use Rattle.aivdm.specs.ReadingOf.{reading_of}
use Rattle.aivdm.specs.SentenceWriting.{fill_of, line_of}
use Rattle.aivdm.specs.Sentences.{LineContent, SentenceFields}
use Rattle.aivdm.proofs.OneReading.{one_reading, reads}
use Rattle.ais_messages.specs.MessageFields.{decoded_of}
use Rattle.ais_messages.specs.PositionWriting.{encoded_of}
use Rattle.ais_messages.specs.declared.message.Decoded.TheVariants as decoded
use Rattle.ais_messages.specs.declared.message.Message.TheVariants.{Position}
use Rattle.ais_messages.specs.declared.message.PositionReport.{PositionReport}
use Rattle.drill_log.specs.DrillFacts.{IsDrillReport}
use Rattle.drill_log.specs.DrillLog.{TimedReport, drill_log_of, drill_reports, report_line}
use Rattle.drill_log.proofs.ReadAgain.{no_line_end, read_again}
use Rattle.drill_log.proofs.Reports.{all_reports}
use Rattle.log_lines.specs.LogLines.{is_line_feed, lines_among, lines_of, without_carriage_return}
use Rattle.scenario_values.specs.ValueRanges.{IsWindow}
use Rattle.scenario_values.specs.declared.values.Scenario.{Scenario}
use Rattle.scenario_values.specs.declared.values.Window.{Window}

-- the forty vessels
abbrev pub InFleet : ℕ → Type 0
InFleet mmsi = (200000001 ≤ mmsi) × (mmsi < 200000001 + 40)

-- The line is a whole message of one of them.
pub record IsFleetLine (line : List ℕ) : Type 0 where
  pub fields : SentenceFields
  pub report : PositionReport
  pub body : (reading_of line).body ≡ Ok fields
  pub whole : fields.total ≡ 1
  pub says : decoded_of (bits_of fields.payload fields.fill) ≡ decoded.Message (Position report)
  pub of_fleet : InFleet report.mmsi

-- ---- the lines of the log

abbrev drill_line : TimedReport → List ℕ
drill_line timed = line_of (Some timed.time) (encoded_of timed.report) 65

abbrev IsVisible : List ℕ → Type 0
IsVisible line = All (λ byte. 33 ≤ byte) line

no_feed : (byte : ℕ) → 33 ≤ byte → is_line_feed byte ≡ false
no_feed byte h = grind (arith, nat_tests)

no_return : (byte : ℕ) → 33 ≤ byte → (byte == 13) ≡ false
no_return byte h = grind (arith, nat_tests)

parts : (reports : List TimedReport) → All (λ timed. IsVisible (drill_line timed)) reports
    → slice_split is_line_feed (flat_map report_line reports) ≡ map drill_line reports ++ [] ∷ []
parts [] all = refl
parts (timed ∷ more) all =
    let P : TimedReport → Type 0 = λ t. IsVisible (drill_line t) in
    let line = drill_line timed in
    let rest = flat_map report_line more in
    let visible : All (λ byte. is_line_feed byte ≡ false) line = All-weaker (λ (byte : ℕ). 33 ≤ byte) (λ byte. is_line_feed byte ≡ false) no_feed line (All-head P timed more all) in
    ap (slice_split is_line_feed) (append_assoc line (10 ∷ []) rest)
    ∙ slice_split_at is_line_feed line 10 rest visible refl
    ∙ ap (λ (ps : List (List ℕ)). line ∷ ps) (parts more (All-tail P timed more all))

among : (lines : List (List ℕ)) → lines_among (lines ++ [] ∷ []) ≡ lines
among [] = refl
among (line ∷ []) = refl
among (line ∷ next ∷ more) = ap (λ (ls : List (List ℕ)). line ∷ ls) (among (next ∷ more))

kept : (line : List ℕ) → IsVisible line → without_carriage_return line ≡ line
kept [] visible = refl
kept (x ∷ xs) visible =
    let last = length (x ∷ xs) - 1 in
    let is : (slice_index (x ∷ xs) last == 13) ≡ false = no_return (slice_index (x ∷ xs) last) (visible last 0 (omega arith)) in
    rw is refl

all_kept : (lines : List (List ℕ)) → All IsVisible lines → map without_carriage_return lines ≡ lines
all_kept [] all = refl
all_kept (line ∷ more) all =
    ap (λ (l : List ℕ). l ∷ map without_carriage_return more) (kept line (All-head IsVisible line more all))
    ∙ ap (λ (ls : List (List ℕ)). line ∷ ls) (all_kept more (All-tail IsVisible line more all))

-- ---- what they say

fleet_line : (window : Window) (timed : TimedReport) → IsWindow window → IsDrillReport window timed → IsFleetLine (drill_line timed)
fleet_line window timed in_range is =
    let (wrote, says) = read_again window timed in_range is in
    let line = drill_line timed in
    let fields : SentenceFields = record { total = 1; number = 1; seq = None; channel = Some 65; payload = wrote.payload; fill = fill_of (encoded_of timed.report) } in
    let content : LineContent = record { stamp = Some timed.time; body = Ok fields } in
    let one : content ≡ reading_of line = one_reading line content (reading_of line) wrote.reads (reads line) in
    record {
      fields = fields;
      report = timed.report;
      body = ap (λ (c : LineContent). c.body) (sym one);
      whole = refl;
      says = ap decoded_of wrote.unfilled ∙ says;
      of_fleet = (is.mmsi_from, omega (arith, is.mmsi_to));
    }

pub fleet_lines : (scenario : Scenario) (seed : ℕ) → IsWindow scenario.window → All IsFleetLine (lines_of (drill_log_of scenario seed))
unfolding drill_log_of
fleet_lines scenario seed in_range =
    let reports = drill_reports scenario seed in
    let all = all_reports scenario seed in
    let visible : All (λ timed. IsVisible (drill_line timed)) reports = All-weaker (IsDrillReport scenario.window) (λ (t : TimedReport). IsVisible (drill_line t)) (λ t is. no_line_end scenario.window t in_range is) reports all in
    let lines : lines_of (drill_log_of scenario seed) ≡ map drill_line reports =
    ap (λ (ps : List (List ℕ)). map without_carriage_return (lines_among ps)) (parts reports visible)
    ∙ ap (map without_carriage_return) (among (map drill_line reports))
    ∙ all_kept (map drill_line reports) (All-map IsVisible drill_line reports visible) in
    subst (All IsFleetLine) (sym lines)
    (All-map IsFleetLine drill_line reports (All-weaker (IsDrillReport scenario.window) (λ (t : TimedReport). IsFleetLine (drill_line t)) (λ t is. fleet_line scenario.window t in_range is) reports all))
