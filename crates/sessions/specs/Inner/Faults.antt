-- Faults of the layers below, as a session has them.
use Rattle.std.specs.Prelude.{ℕ, List, Err}
use Rattle.traces.specs.declared.fault.TickFault.{TickFault as AuditFault}
use Rattle.traces.specs.declared.fault.TickFault.TheVariants as audit
use Rattle.plan_situations.specs.declared.preparation.PrepareFault.{PrepareFault}
use Rattle.plan_situations.specs.declared.preparation.PrepareFault.TheVariants as prepare
use Rattle.tracks.specs.declared.entry.BookFault.{BookFault}
use Rattle.tracks.specs.declared.entry.BookFault.TheVariants as book
use Rattle.scenario_values.specs.declared.values.Scenario.{Scenario}
use Rattle.tasks.specs.declared.mode.Mode.{Mode}
use Rattle.sessions.specs.Endings.{IsAnswerOf}
use Rattle.sessions.specs.Feeding.{UnlessMemory}
use Rattle.sessions.specs.declared.session_fault.SessionFault.{SessionFault}
use Rattle.sessions.specs.declared.session_fault.SessionFault.TheVariants as fault

-- the fault of a log whose lines were judged
abbrev pub judging_fault : BookFault → SessionFault
judging_fault book.TooManyVessels = fault.Vessels
judging_fault book.Memory = fault.Memory

-- the fault of a log that was audited
abbrev pub auditing_fault : AuditFault → SessionFault
auditing_fault audit.TooManyPairs = fault.Pairs
auditing_fault audit.Memory = fault.Memory

-- the fault of a log in which own ship was to be planned for
abbrev pub preparing_fault : PrepareFault → SessionFault
preparing_fault (prepare.Unready why) = fault.Own why
preparing_fault prepare.TooManyTargets = fault.Targets
preparing_fault prepare.Memory = fault.Memory

-- what the fault says of the lines of a log at its end
abbrev pub EndCause : Mode → List ℕ → Scenario → List ℕ → SessionFault → Type 0
EndCause mode rows scenario log why = UnlessMemory why (IsAnswerOf mode rows scenario log (Err why))
