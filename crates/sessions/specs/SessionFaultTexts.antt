-- The words that name why a session gives no report.
use Rattle.std.specs.Prelude.{ℕ, List, codes, ◌++◌}
use Rattle.std.specs.Fmt.{decimal}
use Rattle.log_lines.specs.JudgedLines.{greatest_held}
use Rattle.traces.specs.declared.all_traces.TheConstants.{MOST_TRACES}
use Rattle.plan_situations.specs.PlanSituations.{greatest_targets}
use Rattle.plan_situations.specs.UnreadyTexts.{unready_text}
use Rattle.sessions.specs.declared.session_fault.SessionFault.{SessionFault}
use Rattle.sessions.specs.declared.session_fault.SessionFault.TheVariants as fault

-- The words of the program's line of the fault. The number of bytes that a log may have is the scenario's.
abbrev pub session_fault_text : SessionFault → List ℕ
session_fault_text fault.Vessels = codes "limit: vessels " ++ decimal greatest_held
session_fault_text fault.Pairs = codes "limit: pairs " ++ decimal MOST_TRACES
session_fault_text fault.LogBytes = codes "limit: log"
session_fault_text (fault.Own why) = codes "own: " ++ unready_text why
session_fault_text fault.Targets = codes "limit: targets " ++ decimal greatest_targets
session_fault_text (fault.Entry k) = codes "rows: entry " ++ decimal k
session_fault_text fault.Memory = codes "memory"
