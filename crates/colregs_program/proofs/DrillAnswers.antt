-- A drill meets no limit but that of its log.
use Rattle.std.proofs.Common.{ℕ, ◌≡◌, ◌⊎◌, inl, inr, Bool, false, IsTrue, List, [], take, Option, Some, Ok, Err, refl, subst}
use Rattle.scenario_values.specs.declared.values.Scenario.{Scenario}
use Rattle.tasks.specs.declared.mode.Mode.{Mode}
use Rattle.tasks.specs.declared.mode.Mode.TheVariants as mode
use Rattle.sessions.specs.AuditReport.{sightings_of}
use Rattle.drill_laws.specs.Limits.{MeetsNoLimit}
use Rattle.sessions.specs.Endings.{Came, HasManyTraces, IsAnswerOf}
use Rattle.sessions.specs.Refusals.{IsMet, IsLogRefused, IsStopped}
use Rattle.sessions.specs.declared.session_fault.SessionFault.{SessionFault}
use Rattle.sessions.specs.Tasks.{Task, task_by}
use Rattle.sessions.specs.declared.asked.Asked.{Asked}
use Rattle.sessions.specs.declared.session_fault.SessionFault.TheVariants as why
use Rattle.colregs_program.specs.LogAnswers.{Reports}
use Rattle.colregs_program.specs.Inner.Streaming.{Ends, StreamCause, Stops, is_of_drill, made_fault}
use Rattle.colregs_program.specs.declared.streaming.StreamFault.{StreamFault}
use Rattle.colregs_program.specs.declared.streaming.StreamFault.TheVariants as fault

-- ---- the answers

module _ (scenario : Scenario) (log : List ℕ) (within : MeetsNoLimit scenario log) where
  few_in_all : HasManyTraces mode.Drill scenario log → ⊥
  unfolding sightings_of
  few_in_all many = within.few many

  -- no front of it is refused but for its bytes
  no_refusal : (place : ℕ) (came : Came) → IsLogRefused mode.Drill scenario (take place log) came → came ≡ Err why.LogBytes
  no_refusal place came (inl (long, is)) = is
  no_refusal place came (inr (short, inl (crowded, is))) = let calm = within.front_calm place in cc (crowded, calm)
  no_refusal place came (inr (short, inr (calm, inl (many, is)))) = absurd (within.front_few place many)
  no_refusal place came (inr (short, inr (calm, inr (few, none)))) = absurd none

  -- its end comes to a report
  at_its_end : (came : Came) → IsAnswerOf mode.Drill [] scenario log came → came ≡ Ok false
  at_its_end came (inl (crowded, is)) = let calm = within.calm in cc (crowded, calm)
  at_its_end came (inr (calm, inl (many, is))) = absurd (few_in_all many)
  at_its_end came (inr (calm, inr (few, inl (many, is)))) = absurd many
  at_its_end came (inr (calm, inr (few, inr (own, inl (none, is))))) = absurd none
  at_its_end came (inr (calm, inr (few, inr (own, inr (some, inl (k, bad, is)))))) = absurd bad
  at_its_end came (inr (calm, inr (few, inr (own, inr (some, inr (good, is)))))) = is

  abbrev drilled : Bool → List ℕ → Task
  drilled says rows = record { mode = mode.Drill; why = says; rows = rows }

  -- what it comes to
  drill_comes_to : (says : Bool) (rows : List ℕ) (came : Came) → IsMet (drilled says rows) scenario log came → (came ≡ Err why.LogBytes) ⊎ (came ≡ Ok false)
  drill_comes_to says rows came (inl (place, at)) = inl (no_refusal place came at.here)
  drill_comes_to says rows came (inr (un, answer)) = inr (at_its_end came answer)

  met_where_stopped : (because : SessionFault) (text : List ℕ) → IsStopped mode.Drill scenario log because text → IsMet (drilled false []) scenario log (Err because)
  met_where_stopped because text stop = inl (stop.place, stop.refused)

  drill_only : (b : SessionFault) (came : Came) → came ≡ Err b → (came ≡ Err why.LogBytes) ⊎ (came ≡ Ok false) → IsTrue (is_of_drill (fault.Unreported b))
  drill_only why.LogBytes came is so = refl
  drill_only why.Memory came is so = refl
  drill_only why.Vessels came is (inl same) = cc (is, same)
  drill_only why.Vessels came is (inr same) = cc (is, same)
  drill_only why.Pairs came is (inl same) = cc (is, same)
  drill_only why.Pairs came is (inr same) = cc (is, same)
  drill_only (why.Own lack) came is (inl same) = cc (is, same)
  drill_only (why.Own lack) came is (inr same) = cc (is, same)
  drill_only why.Targets came is (inl same) = cc (is, same)
  drill_only why.Targets came is (inr same) = cc (is, same)
  drill_only (why.Entry index) came is (inl same) = cc (is, same)
  drill_only (why.Entry index) came is (inr same) = cc (is, same)

  stopped_so : (because : SessionFault) (contents contents' : Option (List ℕ)) → Stops mode.Drill scenario (Some log) contents contents' because → IsTrue (is_of_drill (fault.Unreported because))
  stopped_so because contents contents' stops = drill_only because (Err because) refl (drill_comes_to false [] (Err because) (met_where_stopped because stops.stops.0 stops.stops.1))

  ended_so : (asked : Asked) (because : SessionFault) (left' contents contents' : Option (List ℕ)) → Ends (task_by mode.Drill asked) scenario (Some log) left' contents contents' because
      → IsTrue (is_of_drill (fault.Unreported because))
  ended_so asked because left' contents contents' ends = drill_only because (Err because) refl (drill_comes_to asked.why asked.rows.now (Err because) (inr (ends.ends.0, ends.ends.1)))

  drill_cause : (asked : Asked) (left' contents contents' : Option (List ℕ)) (because : StreamFault) → StreamCause (task_by mode.Drill asked) scenario (Some log) left' contents contents' because
      → IsTrue (is_of_drill (made_fault because))
  drill_cause asked left' contents contents' fault.NotRead cause = refl
  drill_cause asked left' contents contents' fault.NotWritten cause = refl
  drill_cause asked left' contents contents' (fault.Unreported why.Vessels) (inl stops) = stopped_so why.Vessels contents contents' stops
  drill_cause asked left' contents contents' (fault.Unreported why.Vessels) (inr ends) = ended_so asked why.Vessels left' contents contents' ends
  drill_cause asked left' contents contents' (fault.Unreported why.Pairs) (inl stops) = stopped_so why.Pairs contents contents' stops
  drill_cause asked left' contents contents' (fault.Unreported why.Pairs) (inr ends) = ended_so asked why.Pairs left' contents contents' ends
  drill_cause asked left' contents contents' (fault.Unreported why.LogBytes) cause = refl
  drill_cause asked left' contents contents' (fault.Unreported (why.Own lack)) cause = ended_so asked (why.Own lack) left' contents contents' cause.0
  drill_cause asked left' contents contents' (fault.Unreported why.Targets) cause = ended_so asked why.Targets left' contents contents' cause.0
  drill_cause asked left' contents contents' (fault.Unreported (why.Entry index)) cause = ended_so asked (why.Entry index) left' contents contents' cause.0
  drill_cause asked left' contents contents' (fault.Unreported why.Memory) cause = refl

  pub drill_faults : (m : Mode) → m ≡ mode.Drill → (asked : Asked) (left' contents contents' : Option (List ℕ)) (because : StreamFault)
      → StreamCause (task_by m asked) scenario (Some log) left' contents contents' because → IsTrue (is_of_drill (made_fault because))
  drill_faults m is asked left' contents contents' because cause =
      drill_cause asked left' contents contents' because (subst (λ (n : Mode). StreamCause (task_by n asked) scenario (Some log) left' contents contents' because) is cause)

  pub drill_reports : (m : Mode) → m ≡ mode.Drill → (asked : Asked) (none : Bool) (contents contents' : Option (List ℕ)) → Reports (task_by m asked) scenario log none contents contents' → none ≡ false
  drill_reports m is asked none contents contents' reports =
      elim (drill_comes_to asked.why asked.rows.now (Ok none) (subst (λ (n : Mode). IsMet (task_by n asked) scenario log (Ok none)) is reports.met)) [ inl same ↦ cc same | inr same ↦ cc same ]
