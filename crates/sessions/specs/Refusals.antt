-- The refusals that are met in a log before its end, each at its place.
use Rattle.std.specs.Prelude.{ℕ, ◌≡◌, ◌<◌, ◌≤◌, ◌-◌, ◌⊎◌, IsTrue, false, List, length, take, Err}
use Rattle.log_lines.specs.GrowingLog.{ended_lines}
use Rattle.log_lines.specs.JudgedLines.{is_crowded}
use Rattle.scenario_values.specs.declared.values.Scenario.{Scenario}
use Rattle.settling.specs.ManySettled.{HaveManySettled}
use Rattle.tasks.specs.declared.mode.Mode.{Mode}
use Rattle.sessions.specs.Endings.{Came, First, IsAnswerTo}
use Rattle.tasks.specs.Modes.{OfTicks, focus_of}
use Rattle.sessions.specs.SettledText.{IsSettledText}
use Rattle.sessions.specs.Tasks.{Task}
use Rattle.sessions.specs.declared.session_fault.SessionFault.{SessionFault}
use Rattle.sessions.specs.declared.session_fault.SessionFault.TheVariants as fault

-- Ticks are examined, and more traces begin at those that the lines settle.
abbrev pub HasManySettled : Mode → Scenario → List (List ℕ) → Type 0
HasManySettled mode scenario lines = OfTicks (focus_of mode) (HaveManySettled scenario lines)

-- A front of a log is refused, whatever follows: it has more bytes than the scenario allows; or else the lines that a line feed has ended
-- make more vessels held; or else more traces begin at ticks that they settle.
abbrev pub IsLogRefused : Mode → Scenario → List ℕ → Came → Type 0
IsLogRefused mode scenario front =
    First (scenario.log.max_bytes < length front) (Err fault.LogBytes)
    (First (IsTrue (is_crowded scenario (ended_lines front))) (Err fault.Vessels)
    (First (HasManySettled mode scenario (ended_lines front)) (Err fault.Pairs)
    (λ came. ⊥)))

-- It is not refused.
pub record IsUnrefused (mode : Mode) (scenario : Scenario) (front : List ℕ) : Type 0 where
  pub short : length front ≤ scenario.log.max_bytes
  pub calm : is_crowded scenario (ended_lines front) ≡ false
  pub few : ¬ HasManySettled mode scenario (ended_lines front)

-- The refusal stands at this place of the log: the front of so many bytes is refused, and no shorter one.
pub record IsRefusedAt (mode : Mode) (scenario : Scenario) (log : List ℕ) (place : ℕ) (came : Came) : Type 0 where
  pub within : place ≤ length log
  pub before : (shorter : ℕ) → shorter < place → IsUnrefused mode scenario (take shorter log)
  pub here : IsLogRefused mode scenario (take place log) came

-- What a log results in: the refusal at the earliest place, or else what its lines result in at its end.
abbrev pub IsMet : Task → Scenario → List ℕ → Came → Type 0
IsMet task scenario log came =
    ((place : ℕ) × IsRefusedAt task.mode scenario log place came) ⊎ (IsUnrefused task.mode scenario log × IsAnswerTo task scenario log came)

-- The log is refused for this cause at a place, and the text is what the bytes before it settle.
pub record IsStopped (mode : Mode) (scenario : Scenario) (log : List ℕ) (why : SessionFault) (text : List ℕ) : Type 0 where
  pub place : ℕ
  pub refused : IsRefusedAt mode scenario log place (Err why)
  pub settled : IsSettledText mode scenario (take (place - 1) log) text
