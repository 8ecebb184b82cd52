-- What a call leaves. It is stated over the definitions that the clauses of `run` are stated over, where the shelf, the log and the sink are known.
use Rattle.std.specs.Prelude.{ℕ, ◌≡◌, ◌≢◌, ◌⊎◌, IsTrue, codes, List, [], ◌∷◌, Option, Some, IfSome}
use Rattle.outside.specs.Shelves.{Files}
use Rattle.colregs_program.specs.Answers.{EndsWith, IsDue, Migrates, Runs, StopsWith, WritesNothing}
use Rattle.colregs_program.specs.AskedScenarios.{log_of, task_of}
use Rattle.colregs_program.specs.FaultLines.{exit_status_of, fault_line}
use Rattle.colregs_program.specs.LogAnswers.{IsAnswered, IsFinished}
use Rattle.colregs_program.specs.Stages.{is_in_log, stage_of}
use Rattle.colregs_program.specs.declared.status.Status.{Status}
use Rattle.colregs_program.specs.declared.status.Status.TheVariants as status
use Rattle.sessions.specs.Endings.{IsEnding}
use Rattle.command_line.specs.CommandLine.{mode_text}
use Rattle.command_line.specs.declared.mode.ModeArgument.{ModeArgument}
use Rattle.colregs_c.specs.Arguments.{arguments_of}
use Rattle.colregs_c.specs.Rooms.{Fills}
use Rattle.colregs_c.specs.declared.numbers.OptionNumbers.{OptionNumbers}

-- the bytes that a call hands in, and the arguments that its numbers stand for
pub record Call : Type 0 where
  pub arguments : List (List ℕ)
  pub scenario : List ℕ
  pub rows : List ℕ
  pub log : List ℕ

-- the call of a mode with these options
abbrev pub call_of : ModeArgument → OptionNumbers → List ℕ → List ℕ → List ℕ → Call
call_of mode options scenario log rows = record { arguments = arguments_of (mode_text mode) options; scenario = scenario; rows = rows; log = log }

-- the shelf of a call: the scenario and the rows, under the names that the arguments give them
abbrev pub files_with : List ℕ → List ℕ → Files
files_with scenario rows = (codes "scenario.toml", scenario) ∷ (codes "why.csv", rows) ∷ []

abbrev pub files_of : Call → Option Files
files_of call = Some (files_with call.scenario call.rows)

-- The text is the report of a finished run: that of the log for the scenario's values, with the options in place, which has this answer; or the migrated scenario.
abbrev pub IsReportOf : Call → Status → List ℕ → Type 0
IsReportOf call answer text =
    Runs call.arguments (files_of call) (λ _. Unit {0}) (λ request rows scenario. IfSome (log_of request scenario (Some call.log)) (λ log.
    IsAnswered (task_of request rows) scenario log answer × IsEnding (task_of request rows) scenario log text))
    ⊎ ((answer ≡ status.Done) × Migrates call.arguments (files_of call) (λ migrated. text ≡ migrated))

-- The text is what was settled before a limit was met, at a place in the log or at its end.
abbrev pub IsSettledBefore : Call → Status → List ℕ → Type 0
IsSettledBefore call answer text =
    Runs call.arguments (files_of call) (λ _. Unit {0}) (λ request rows scenario.
    StopsWith request scenario (Some call.log) (Some []) (Some text) answer
    ⊎ ((left : Option (List ℕ)) × EndsWith request rows scenario (Some call.log) left (Some []) (Some text) answer))

-- The answer to a call, and the text of its report.
pub record IsAnsweredBy (call : Call) (answer : Status) (text : List ℕ) : Type 0 where
  -- Whichever answer is due, it is that one.
  pub due : (due : Status) → IsDue call.arguments (files_of call) (Some call.log) due → answer ≡ due
  pub finished : IsTrue (IsFinished answer) → IsReportOf call answer text
  pub limited : IsTrue (is_in_log (stage_of answer)) → IsSettledBefore call answer text
  pub silent : IsTrue (WritesNothing answer) → text ≡ []
  -- Nothing outside of memory can fail.
  pub unread : answer ≢ status.ReadFault
  pub unwritten : answer ≢ status.WriteFault

-- A call is answered, or memory ran out and there is no report.
abbrev pub AnswersCall : Call → Status → List ℕ → Type 0
AnswersCall call answer text = IsAnsweredBy call answer text ⊎ ((answer ≡ status.Memory) × (text ≡ []))

-- what a call returns, and what is in the caller's two rooms before and after it
pub record Left : Type 0 where
  pub result : ℕ
  pub room : List ℕ
  pub room' : List ℕ
  pub length : ℕ
  pub line_room : List ℕ
  pub line_room' : List ℕ
  pub line_length : ℕ

-- The call returns the answer's status, and the rooms have the first bytes of these texts, with their lengths.
pub record Shows (left : Left) (answer : Status) (text : List ℕ) : Type 0 where
  pub status : left.result ≡ exit_status_of answer
  pub report : Fills left.room left.room' left.length text
  pub line : Fills left.line_room left.line_room' left.line_length (fault_line answer)

-- A call leaves its answer, and its report as far as there is room.
pub record Leaves (call : Call) (left : Left) : Type 0 where
  pub answer : Status
  pub text : List ℕ
  pub answered : AnswersCall call answer text
  pub shown : Shows left answer text

-- A call whose mode or options are out of range is refused as a command line is, unless memory runs out for the line that says so.
pub record Refuses (left : Left) : Type 0 where
  pub answer : Status
  pub is : (answer ≡ status.Usage) ⊎ (answer ≡ status.Memory)
  pub shown : Shows left answer []
