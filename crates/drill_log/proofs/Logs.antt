-- The log, from its lines minute by minute.
use Rattle.std.proofs.Common.{◌≡◌, ℕ, ◌+◌, ◌*◌, Bool, List, [], ◌∷◌, ◌++◌, map, Some, sym, ap, ap₂, ◌∙◌, arith, append_assoc}
use Rattle.std.proofs.lemmas.List.Folds.{flat_map-map}
use Rattle.std.proofs.lemmas.List.FromFn.{map-range_with_len_more}
use Rattle.std.specs.List.{range_with_len, flat_map}
use Rattle.aivdm.specs.SentenceWriting.{line_of}
use Rattle.ais_messages.specs.PositionWriting.{encoded_of}
use Rattle.ais_messages.specs.declared.message.PositionReport.{PositionReport}
use Rattle.scenario_values.specs.declared.values.Scenario.{Scenario}
use Rattle.drill_log.specs.DrillLog.{TimedReport, report_line, vessel_report, reports_at}
use Rattle.drill_log.specs.Inner.VesselFigures.{report_by, vessel_of}
use Rattle.drill_log.specs.declared.vessel.Vessel.{Vessel}

-- the line of a vessel after this many minutes
abbrev pub line_by : Scenario → ℕ → Vessel → List ℕ
line_by scenario minutes vessel = report_line (record { time = scenario.window.start + 60 * minutes; report = report_by vessel scenario.reference minutes })

pub minute_lines : (scenario : Scenario) (seed minutes : ℕ)
    → flat_map (line_by scenario minutes) (map (vessel_of seed) (range_with_len 0 40)) ≡ flat_map report_line (reports_at scenario seed minutes)
unfolding vessel_of report_by vessel_report
minute_lines scenario seed minutes =
    flat_map-map (line_by scenario minutes) (vessel_of seed) (range_with_len 0 40)
    ∙ sym (flat_map-map report_line (λ vessel. let timed : TimedReport = record { time = scenario.window.start + 60 * minutes; report = vessel_report scenario.reference seed vessel minutes } in timed) (range_with_len 0 40))

-- a line and its end, one after the other
pub line_more : (log line text extended pushed : List ℕ) (bits : List Bool) (time : ℕ) (report : PositionReport)
    → bits ≡ encoded_of report → text ≡ line_of (Some time) bits 65 → line ≡ text → extended ≡ log ++ line → pushed ≡ extended ++ 10 ∷ []
    → pushed ≡ log ++ report_line (record { time = time; report = report })
line_more log line text extended pushed bits time report are is same one two =
    two
    ∙ ap (λ (l : List ℕ). l ++ 10 ∷ []) (one ∙ ap (λ (l : List ℕ). log ++ l) (same ∙ is ∙ ap (λ (b : List Bool). line_of (Some time) b 65) are))
    ∙ append_assoc log (line_of (Some time) (encoded_of report) 65) (10 ∷ [])

-- the list of vessels with one more
pub vessel_more : (seed number : ℕ) (before after : List Vessel) (vessel : Vessel) → before ≡ map (vessel_of seed) (range_with_len 0 number)
    → after ≡ before ++ vessel ∷ [] → vessel ≡ vessel_of seed number → after ≡ map (vessel_of seed) (range_with_len 0 (number + 1))
vessel_more seed number before after vessel so_far more is =
    more ∙ ap₂ (λ (xs : List Vessel) (v : Vessel). xs ++ v ∷ []) so_far is ∙ sym (map-range_with_len_more (vessel_of seed) 0 number number (omega arith))
