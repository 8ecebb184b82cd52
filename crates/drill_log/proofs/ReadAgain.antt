-- The line of a report is read as the report again.
use Rattle.std.proofs.Common.{◌≡◌, ℕ, ◌*◌, ◌≤◌, ◌==◌, length, All, Some, if◌then◌else◌, refl, ap, ◌∙◌, arith}
use Rattle.std.proofs.Math.Nat.{mul-le-mul}
use Rattle.aivdm.specs.SentenceWriting.{line_of, IsWritten}
use Rattle.aivdm.proofs.WrittenLines.{written}
use Rattle.ais_messages.specs.MessageFields.{decoded_of}
use Rattle.ais_messages.specs.PositionWriting.{bits_written, class_a_fields, class_b_fields, encoded_of}
use Rattle.ais_messages.specs.declared.message.Decoded.TheVariants as decoded
use Rattle.ais_messages.specs.declared.message.Message.TheVariants.{Position}
use Rattle.ais_messages.specs.declared.message.PositionReport.{PositionReport}
use Rattle.ais_messages.proofs.ReadAgain.{read_again_a}
use Rattle.ais_messages.proofs.Writing.{length-written, widths_of}
use Rattle.scenario_values.specs.ValueRanges.{IsWindow}
use Rattle.scenario_values.specs.declared.values.Window.{Window}
use Rattle.drill_log.specs.DrillFacts.{IsDrillReport}
use Rattle.drill_log.specs.DrillLog.{TimedReport}
use Rattle.drill_log.proofs.Lines.{line_visible}

-- message 1 has the fields of class A
class_a : (report : PositionReport) → report.kind ≡ 1 → encoded_of report ≡ bits_written (class_a_fields report)
class_a report is = ap (λ (kind : ℕ). bits_written (if kind == 18 then class_b_fields report else class_a_fields report)) is

length_a : (report : PositionReport) → length (bits_written (class_a_fields report)) ≡ 168
unfolding class_a_fields widths_of
length_a report = length-written (class_a_fields report)

-- a window lasts at most 1,200,000 seconds
pub window_short : (window : Window) → IsWindow window → window.ticks * window.tick ≤ 1200000
window_short window is = mul-le-mul {n₁ = window.ticks} {m₁ = window.tick} {n₂ = 20000} {m₂ = 60} is.ticks_to is.tick_to

pub read_again : (window : Window) (timed : TimedReport) → IsWindow window → IsDrillReport window timed
    → IsWritten (Some timed.time) (encoded_of timed.report) 65 (line_of (Some timed.time) (encoded_of timed.report) 65)
    × (decoded_of (encoded_of timed.report) ≡ decoded.Message (Position timed.report))
read_again window timed in_range is =
    let bits = class_a timed.report is.kind in
    let size : length (encoded_of timed.report) ≡ 168 = ap length bits ∙ length_a timed.report in
    let short = window_short window in_range in
    let start = in_range.start in (
      written (Some timed.time) (encoded_of timed.report) 65 (line_of (Some timed.time) (encoded_of timed.report) 65) (omega arith) (omega arith) refl (omega (arith, is.time_to)) refl,
      ap decoded_of bits ∙ read_again_a timed.report is.ranges (omega (arith, is.kind)) (omega (arith, is.kind)),
    )

pub no_line_end : (window : Window) (timed : TimedReport) → IsWindow window → IsDrillReport window timed
    → All (λ byte. 33 ≤ byte) (line_of (Some timed.time) (encoded_of timed.report) 65)
no_line_end window timed in_range is =
    let short = window_short window in_range in
    let start = in_range.start in line_visible timed.time (encoded_of timed.report) (omega (arith, is.time_to))
