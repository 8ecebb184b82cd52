-- What work on a line does.
use Rattle.std.specs.Prelude.{ℕ, ◌≡◌, List, [], ◌∷◌, ◌++◌}
use Rattle.audit_report.specs.ReportTexts.{HasText}
use Rattle.audit_report.specs.declared.report_text.ReportText.{ReportText}
use Rattle.log_lines.specs.JudgedLines.{judged_lines}
use Rattle.log_lines.specs.Standing.{StandsFor as JudgeStandsFor, keeping_of}
use Rattle.log_lines.specs.declared.judge.Judge.{Judge}
use Rattle.log_lines.specs.declared.judged.Judged.{Judged}
use Rattle.scenario_values.specs.declared.values.Scenario.{Scenario}
use Rattle.sessions.specs.SettledText.{IsDecidedText}
use Rattle.sessions.specs.Standing.{HasAudited, KeepsEnough, mode_by}
use Rattle.sessions.specs.declared.work.Work.{Work}

-- The work was done on these lines, and this text was given: the one that they decide.
abbrev pub IsDone : Work → Scenario → List (List ℕ) → List ℕ → Type 0
IsDone work scenario lines given = (decided : IsDecidedText (mode_by work) scenario lines given) × HasAudited work scenario lines given decided

-- The work was done on some lines, and the judge has taken these and more.
pub record Works (work : Work) (scenario : Scenario) (judge : Judge) (lines more : List (List ℕ)) : Type 0 where
  pub given : List ℕ
  pub done : IsDone work scenario lines given
  pub judged : JudgeStandsFor judge scenario (lines ++ more)

pub record IsReadyFor (work : Work) (scenario : Scenario) (judge : Judge) : Type 0 where
  pub lines : List (List ℕ)
  pub more : List (List ℕ)
  pub works : Works work scenario judge lines more

-- The work went on by one line that was judged, what is kept is still enough for it, and what is decided by the line stands in the text behind a front.
pub record GoesOn (work work' : Work) (scenario : Scenario) (judge : Judge) (judged : Judged) (front : List ℕ) (text : ReportText) : Type 0 where
  pub decided : List ℕ
  pub has : HasText text (front ++ decided)
  pub keeps : KeepsEnough work' scenario (keeping_of judge)
  pub done : (lines more : List (List ℕ)) (given : List ℕ) → IsDone work scenario lines given → JudgeStandsFor judge scenario (lines ++ more)
      → judged_lines scenario (lines ++ more) ≡ judged_lines scenario lines ++ judged ∷ [] → IsDone work' scenario (lines ++ more) (given ++ decided)
