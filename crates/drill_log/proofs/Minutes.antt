-- The lines of minutes, one after the other, and what is left of them.
use Rattle.std.proofs.Common.{◌≡◌, ℕ, ◌+◌, ◌-◌, ◌≤◌, List, [], ◌∷◌, ◌++◌, map, refl, sym, ap, ap₂, ◌∙◌, arith, append-nil}
use Rattle.std.proofs.lemmas.Grind.{flat_map-append}
use Rattle.std.specs.List.{flat_map, range_with_len}
use Rattle.drill_log.specs.DrillLog.{drill_log_of, minutes_in, report_line, reports_at}
use Rattle.drill_log.specs.Inner.MinuteLines.{lines_at}
use Rattle.drill_log.specs.Inner.VesselFigures.{vessel_of}
use Rattle.drill_log.specs.declared.vessel.Vessel.{Vessel}
use Rattle.scenario_values.specs.declared.values.Scenario.{Scenario}
use Rattle.drill_log.proofs.Lists.{range_split}
use Rattle.drill_log.proofs.Logs.{minute_lines}

-- the lines of one more minute
pub minute_on : (f : ℕ → List ℕ) (from minutes : ℕ) (before after : List ℕ) → from ≤ minutes → before ≡ flat_map f (range_with_len from (minutes - from))
    → after ≡ before ++ f minutes → after ≡ flat_map f (range_with_len from (minutes + 1 - from))
minute_on f from minutes before after le so_far more =
    let count : minutes - from + 1 ≡ minutes + 1 - from = omega arith in
    let here : from + (minutes - from) ≡ minutes = omega arith in
    let one : flat_map f (range_with_len from (minutes - from + 1)) ≡ flat_map f (range_with_len from (minutes - from)) ++ f minutes =
    ap (flat_map f) (range_split from (minutes - from) 1) ∙ flat_map-append f (range_with_len from (minutes - from)) ((from + (minutes - from)) ∷ [])
    ∙ ap (λ (m : ℕ). flat_map f (range_with_len from (minutes - from)) ++ flat_map f (m ∷ [])) here
    ∙ ap (λ (l : List ℕ). flat_map f (range_with_len from (minutes - from)) ++ l) (append-nil (f minutes)) in
    more ∙ ap (λ (l : List ℕ). l ++ f minutes) so_far ∙ sym one ∙ ap (λ (n : ℕ). flat_map f (range_with_len from n)) count

-- The lines of some minutes come before those of the minutes after them.
pub minutes_split : (f : ℕ → List ℕ) (made next reports : ℕ) → made ≤ next → next ≤ reports
    → flat_map f (range_with_len made (next - made)) ++ flat_map f (range_with_len next (reports - next)) ≡ flat_map f (range_with_len made (reports - made))
minutes_split f made next reports first second =
    let count : next - made + (reports - next) ≡ reports - made = omega arith in
    let here : made + (next - made) ≡ next = omega arith in
    ap (λ (m : ℕ). flat_map f (range_with_len made (next - made)) ++ flat_map f (range_with_len m (reports - next))) (sym here)
    ∙ sym (flat_map-append f (range_with_len made (next - made)) (range_with_len (made + (next - made)) (reports - next)))
    ∙ ap (flat_map f) (sym (range_split made (next - made) (reports - next))) ∙ ap (λ (n : ℕ). flat_map f (range_with_len made n)) count

-- all minutes

minute_by_minute : (scenario : Scenario) (seed : ℕ) (minutes : List ℕ)
    → flat_map (lines_at scenario.reference scenario.window.start (map (vessel_of seed) (range_with_len 0 40))) minutes ≡ flat_map report_line (flat_map (reports_at scenario seed) minutes)
minute_by_minute scenario seed [] = refl
minute_by_minute scenario seed (m ∷ minutes) =
    ap₂ (λ (a b : List ℕ). a ++ b) (minute_lines scenario seed m) (minute_by_minute scenario seed minutes)
    ∙ sym (flat_map-append report_line (reports_at scenario seed m) (flat_map (reports_at scenario seed) minutes))

pub whole_log : (scenario : Scenario) (seed reports : ℕ) (vessels : List Vessel) → vessels ≡ map (vessel_of seed) (range_with_len 0 40) → reports ≡ minutes_in scenario.window + 1
    → flat_map (lines_at scenario.reference scenario.window.start vessels) (range_with_len 0 (reports - 0)) ≡ drill_log_of scenario seed
unfolding drill_log_of
whole_log scenario seed reports vessels are count =
    let n : reports - 0 ≡ minutes_in scenario.window + 1 = omega (arith, count) in
    (λ i. flat_map (lines_at scenario.reference scenario.window.start (are i)) (range_with_len 0 (n i)))
    ∙ minute_by_minute scenario seed (range_with_len 0 (minutes_in scenario.window + 1))
