-- A line that is dropped for what it is and has no stamp, and what the report on a log without it is.
use Rattle.std.specs.Prelude.{ℕ, ◌≡◌, ◌<◌, ◌==◌, ◌-◌, ◌⊎◌, false, None, flat_map, List, [], ◌∷◌, ◌++◌, length, if◌then◌else◌}
use Rattle.std.specs.List.{All}
use Rattle.aivdm.specs.declared.sentence.LineCause.{LineCause}
use Rattle.report_csv.specs.CsvRows.{row_of}
use Rattle.audit_report.specs.ReportRows.{count_fields}
use Rattle.tasks.specs.declared.mode.Mode.{Mode}
use Rattle.tasks.specs.declared.mode.Mode.TheVariants as mode
use Rattle.log_lines.specs.GrowingLog.{open_part}
use Rattle.log_lines.specs.JudgedLines.{judged_line, outcome_of}
use Rattle.log_lines.specs.LineOutcomes.{all_outcomes, line_outcome, outcome_index}
use Rattle.log_lines.specs.LineTimes.{stamp_of}
use Rattle.log_lines.specs.LogLines.{is_line_feed}
use Rattle.log_lines.specs.declared.outcome.LineOutcome.{LineOutcome}
use Rattle.scenario_values.specs.declared.values.Scenario.{Scenario}

-- The bytes of one line stand between others of a log, with the line feed that ends them, or none at the end of the log.
pub record IsOneLine (before part ending after : List ℕ) : Type 0 where
  pub begins : open_part before ≡ []
  pub is_one : All (λ byte. is_line_feed byte ≡ false) part
  pub ends : (ending ≡ 10 ∷ []) ⊎ ((ending ≡ []) × (after ≡ []) × (0 < length part))

-- A line has no stamp, and comes to the outcome of one of the causes for which it is dropped for what it is: `empty`, `long`, `tag`,
-- `other`, `form`, `sum` or `armour`.
pub record IsInert (scenario : Scenario) (before : List (List ℕ)) (line : List ℕ) (cause : LineCause) : Type 0 where
  pub unstamped : stamp_of line ≡ None
  pub dropped : outcome_of (judged_line scenario before line) ≡ line_outcome cause

-- so many lines came to each outcome, as rows of a report
abbrev pub rows_of_counts : (LineOutcome → ℕ) → List ℕ
rows_of_counts count = flat_map (λ outcome. row_of (count_fields outcome (count outcome))) all_outcomes

-- the same counts, but for that of one outcome, which is smaller by one
abbrev pub one_fewer : LineOutcome → (LineOutcome → ℕ) → LineOutcome → ℕ
one_fewer fewer count outcome = if outcome_index fewer == outcome_index outcome then count outcome - 1 else count outcome

-- The second text is the first but for the count of an outcome, which is smaller by one. Only the reasons why every plan fails may follow the counts.
pub record HasOneFewer (outcome : LineOutcome) (text other : List ℕ) : Type 0 where
  pub rows : List ℕ
  pub count : LineOutcome → ℕ
  pub reasons : List ℕ
  pub some : 0 < count outcome
  pub is : text ≡ rows ++ rows_of_counts count ++ reasons
  pub is_other : other ≡ rows ++ rows_of_counts (one_fewer outcome count) ++ reasons

-- what a report is without the line: the same but for that count; the report of a recheck has no counts and is the same
abbrev pub IsWithoutLine : Mode → LineOutcome → List ℕ → List ℕ → Type 0
IsWithoutLine mode.Recheck outcome text other = other ≡ text
IsWithoutLine m outcome text other = HasOneFewer outcome text other
