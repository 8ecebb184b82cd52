-- The stamps of lines keep the clock and the times.
use Rattle.std.proofs.Common.{◌≡◌, ℕ, List, [], ◌∷◌, ◌++◌, refl, ap, ap₂, ◌∙◌, sym}
use Rattle.std.specs.Prelude.{Option, Some, None, unwrap_or}
use Rattle.std.specs.List.{cons_option, filter, last_or}
use Rattle.aivdm.specs.ReadingOf.{reading_of}
use Rattle.log_lines.specs.LineTimes.{clock_of, greatest, is_in_window, stamp_of, stamps_of, time_of}
use Rattle.log_lines.specs.SentLines.{heard_in, heard_of}
use Rattle.scenario_values.specs.declared.values.Scenario.{Scenario}

consed : (o : Option ℕ) (xs ys : List ℕ) → cons_option o (xs ++ ys) ≡ cons_option o xs ++ ys
consed None xs ys = refl
consed (Some x) xs ys = refl

stamps_then : (lines more : List (List ℕ)) → stamps_of (lines ++ more) ≡ stamps_of lines ++ stamps_of more
stamps_then [] more = refl
stamps_then (line ∷ lines) more = ap (cons_option (stamp_of line)) (stamps_then lines more) ∙ consed (stamp_of line) (stamps_of lines) (stamps_of more)

pub heard_by_stamps : (scenario : Scenario) (before others : List (List ℕ)) (line : List ℕ) → stamps_of before ≡ stamps_of others
    → heard_of scenario before line ≡ heard_of scenario others line
unfolding heard_of clock_of time_of
heard_by_stamps scenario before others line same =
    let stamps : stamps_of (before ++ line ∷ []) ≡ stamps_of (others ++ line ∷ []) =
    stamps_then before (line ∷ []) ∙ (ap (λ (stamps : List ℕ). stamps ++ stamps_of (line ∷ [])) same ∙ sym (stamps_then others (line ∷ []))) in
    ap₂ (λ (clock : Option ℕ) (time : ℕ). heard_in scenario clock time (reading_of line).body)
    (ap (λ (stamps : List ℕ). greatest (filter (is_in_window scenario) stamps)) same)
    (ap (λ (stamps : List ℕ). unwrap_or (last_or None stamps) scenario.window.start) stamps)
