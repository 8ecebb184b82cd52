-- Lines that end, of a log that comes in pieces.
use Rattle.std.proofs.Common.{◌≡◌, ℕ, false, List, [], ◌∷◌, ◌++◌, length, length-append, take, refl, ap, ap₂, sym, ◌∙◌, append_assoc, append-nil, arith}
use Rattle.std.specs.List.{All}
use Rattle.std.specs.Prelude.{◌==◌, true}
use Rattle.std.proofs.lemmas.Bool.Decides.{nat_tests}
use Rattle.std.proofs.lemmas.List.{nil_from_length}
use Rattle.log_lines.specs.GrowingLog.{ended_lines, open_part}
use Rattle.log_lines.proofs.ForCallers.{ended_by_feed, ended_so_far, lines_ended_or_open, open_by_feed, open_so_far, judged-push}
use Rattle.log_lines.specs.JudgedLines.{judged_line, judged_lines}
use Rattle.log_lines.specs.LogLines.{is_line_feed, lines_of, without_carriage_return}
use Rattle.log_lines.specs.Inner.OpenLines.{HasExtended}
use Rattle.log_lines.specs.Standing.{OpenLineStandsFor}
use Rattle.log_lines.specs.declared.open_line.OpenLine.{OpenLine}
use Rattle.log_lines.specs.declared.judged.Judged.{Judged}
use Rattle.scenario_values.specs.declared.values.Scenario.{Scenario}

abbrev pub NoFeed : List ℕ → Type 0
NoFeed part = All (λ byte. is_line_feed byte ≡ false) part

-- ---- a line that ends

module _ (log part : List ℕ) (none : NoFeed part) where
  pub line_ends : ended_lines (log ++ (part ++ 10 ∷ [])) ≡ ended_lines log ++ without_carriage_return (open_part log ++ part) ∷ []
  line_ends =
      ap ended_lines (sym (append_assoc log part (10 ∷ []))) ∙ ended_by_feed (log ++ part)
      ∙ ap₂ (λ (lines : List (List ℕ)) (last : List ℕ). lines ++ without_carriage_return last ∷ []) (ended_so_far log part none) (open_so_far log part none)

  goes_on : open_part (log ++ part) ≡ open_part log ++ part
  goes_on = open_so_far log part none

  pub line_judged : (scenario : Scenario) (judged : Judged) → judged ≡ judged_line scenario (ended_lines log) (without_carriage_return (open_part log ++ part))
      → judged_lines scenario (ended_lines (log ++ (part ++ 10 ∷ []))) ≡ judged_lines scenario (ended_lines log) ++ judged ∷ []
  line_judged scenario judged is =
      ap (judged_lines scenario) line_ends ∙ judged-push scenario (ended_lines log) (without_carriage_return (open_part log ++ part))
      ∙ ap (λ (j : Judged). judged_lines scenario (ended_lines log) ++ j ∷ []) (sym is)

-- ---- an open line that goes on

module _ (line : OpenLine) (log part : List ℕ) where
  pub stays_without : (length (open_part log) == 0) ≡ true → OpenLineStandsFor line log → HasExtended line log part
  stays_without is stands = record {
    stood = log;
    stands = stands;
    is = rw is (ap (λ (o : List ℕ). o ++ part) (sym (nil_from_length (open_part log) (grind (arith, nat_tests, is)))));
  }

  pub goes_on_with : NoFeed part → (length (open_part log) == 0) ≡ false → OpenLineStandsFor line (log ++ part) → HasExtended line log part
  goes_on_with none is stands =
      let same = goes_on log part none in
      let long = ap length same ∙ length-append (open_part log) part in
      let some : (length (open_part (log ++ part)) == 0) ≡ false = grind (arith, nat_tests, is, long) in
      record { stood = log ++ part; stands = stands; is = rw some same }

  module _ (extended : HasExtended line log part) where
    pub part_alone : (length (open_part extended.stood) == 0) ≡ true → part ≡ open_part log ++ part
    part_alone is = rw is at extended.is

    pub open_line : (length (open_part extended.stood) == 0) ≡ false → open_part extended.stood ≡ open_part log ++ part
    open_line is = rw is at extended.is

-- No line is open behind a line feed, whatever stands before it.
pub begins_anew : (stood log part kept : List ℕ) → kept ≡ take 1026 (open_part (stood ++ 10 ∷ [])) → kept ≡ take 1026 (open_part (log ++ (part ++ 10 ∷ [])))
begins_anew stood log part kept is =
    is ∙ ap (take 1026) (open_by_feed stood ∙ sym (open_by_feed (log ++ part)) ∙ ap open_part (append_assoc log part (10 ∷ [])))

-- ---- the log's end

pub all_ended : (log : List ℕ) → (length (open_part log) == 0) ≡ true → lines_of log ≡ ended_lines log
all_ended log is = lines_ended_or_open log ∙ rw is (append-nil (ended_lines log))

one_open : (log : List ℕ) → (length (open_part log) == 0) ≡ false → lines_of log ≡ ended_lines log ++ without_carriage_return (open_part log) ∷ []
one_open log is = lines_ended_or_open log ∙ rw is refl

-- An open line is one as if a line feed ended it.
pub ended_by_end : (log : List ℕ) → (length (open_part log) == 0) ≡ false → lines_of log ≡ ended_lines (log ++ 10 ∷ [])
ended_by_end log is = one_open log is ∙ sym (ended_by_feed log)
