-- The model of a judge: the lines of a log so far, and the result of each. The model of an open line and of streamed
-- lines: the bytes of a log so far.
use Rattle.std.specs.Prelude.{ℕ, ◌≡◌, ◌≤◌, ◌<◌, ◌==◌, ◌^◌, Bool, false, count_by, length, slice_index, take, unwrap_or, List, MatchOption, Option, None}
use Rattle.std.specs.List.{last_or}
use Rattle.aivdm.specs.OpenMessages.{StandsFor as JoinerStandsFor}
use Rattle.scenario_values.specs.declared.values.Scenario.{Scenario}
use Rattle.tracks.specs.Standing.{StandsFor as BookStandsFor}
use Rattle.tracks.specs.VesselsHeld.{held_of}
use Rattle.log_lines.specs.EachLine.{each_line}
use Rattle.log_lines.specs.GrowingLog.{ended_lines, open_part}
use Rattle.log_lines.specs.JudgedLines.{greatest_held, is_crowded, judged_lines, numbers_of, outcome_of}
use Rattle.log_lines.specs.LineOutcomes.{outcome_index}
use Rattle.log_lines.specs.SentLines.{heard, sent}
use Rattle.log_lines.specs.ShipTypes.{AreNoted, counts_ranks}
use Rattle.log_lines.specs.StaticReports.{told_of}
use Rattle.log_lines.specs.Inner.Times.{KeepsTimes}
use Rattle.log_lines.specs.declared.judged.Judged.{Judged}
use Rattle.log_lines.specs.declared.judge.Judge.{Judge}
use Rattle.log_lines.specs.declared.open_line.OpenLine.{OpenLine}
use Rattle.log_lines.specs.declared.streamed.StreamedLines.{StreamedLines}
use Rattle.log_lines.specs.declared.told_static.ToldStatic.{ToldStatic}
use Rattle.tracks.specs.declared.keeping.Keeping.{Keeping}

-- the part of each vessel's reports that its book stores
abbrev pub keeping_of : Judge → Keeping
keeping_of judge = judge.book.keeping

-- whether a line has the outcome at this index
abbrev pub is_at_place : ℕ → Judged → Bool
is_at_place place line = outcome_index (outcome_of line) == place

-- The count at each index is the number of lines with the outcome at that index.
pub record AreCounts (counts : List ℕ) (lines : List Judged) : Type 0 where
  pub many : length counts ≡ 21
  pub each : (place : ℕ) → place < 21 → slice_index counts place ≡ count_by (is_at_place place) lines

-- a vessel's static data in the last of the lines
abbrev pub last_told : Scenario → List (List ℕ) → Option ToldStatic
last_told scenario lines = unwrap_or (last_or None (each_line (told_of scenario) lines)) None

-- The judge's model is these lines. They are within its limit of lines, and their vessels within its limit of vessels.
pub record StandsFor (judge : Judge) (scenario : Scenario) (lines : List (List ℕ)) : Type 0 where
  pub countable : length lines < 2 ^ 64
  pub times : KeepsTimes judge.times scenario lines
  pub joiner : JoinerStandsFor judge.joiner (heard scenario lines)
  pub book : BookStandsFor judge.book (numbers_of scenario) (sent scenario lines)
  pub few : length (held_of (numbers_of scenario) (sent scenario lines)) ≤ greatest_held
  pub notes : AreNoted (counts_ranks (keeping_of judge) scenario) judge.ranks (sent scenario lines)
  pub calm : is_crowded scenario lines ≡ false
  pub told : judge.told ≡ last_told scenario lines
  pub counts : AreCounts judge.counts (judged_lines scenario lines)

-- The model of an open line is a log: it stores the first bytes after the last line feed, at most two more than a line
-- may have.
abbrev pub OpenLineStandsFor : OpenLine → List ℕ → Type 0
OpenLineStandsFor line log = line.bytes.items ≡ take 1026 (open_part log)

-- What is known of a line: its bytes, or that it is longer than a line may be.
abbrev pub IsKnownLine : Option (List ℕ) → List ℕ → Type 0
IsKnownLine known line = MatchOption known (1024 < length line) (λ (bytes : List ℕ). bytes ≡ line)

-- the part of each vessel's reports that streamed lines store
abbrev pub kept_of : StreamedLines → Keeping
kept_of lines = keeping_of lines.judge

-- The model of streamed lines is the bytes of a log so far: the ended lines are judged, and the open one is stored.
pub record LinesStandFor (lines : StreamedLines) (scenario : Scenario) (log : List ℕ) : Type 0 where
  pub judge : StandsFor lines.judge scenario (ended_lines log)
  pub line : OpenLineStandsFor lines.line log
