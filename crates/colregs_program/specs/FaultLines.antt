-- What a run writes to standard error: a line that names the fault.
use Rattle.std.specs.Prelude.{ℕ, codes, Bool, true, false, List, [], ◌∷◌, ◌++◌}
use Rattle.std.specs.Fmt.{decimal}
use Rattle.plan_situations.specs.UnreadyTexts.{unready_text}
use Rattle.scenario_keys.specs.ScenarioTexts.{fault_text}
use Rattle.colregs_program.specs.declared.status.Which.{Which}
use Rattle.colregs_program.specs.declared.status.Which.TheVariants as which
use Rattle.colregs_program.specs.declared.status.Status.{Status}
use Rattle.colregs_program.specs.declared.status.Status.TheVariants as status

abbrev pub line : List ℕ → List ℕ
line text = text ++ 10 ∷ []

abbrev pub limited : Which → List ℕ
limited which.Scenario = codes "scenario"
limited which.Log = codes "log"
limited which.Vessels = codes "vessels"
limited which.Pairs = codes "pairs"
limited which.Targets = codes "targets"
limited which.Rows = codes "rows"

-- the words of a fault; none where the run is finished
abbrev pub status_text : Status → List ℕ
status_text status.Done = []
status_text status.NoManoeuvre = []
status_text status.Usage = codes "usage: points|audit|plan|drill|migrate|recheck|watch SCENARIO"
status_text (status.Scenario key cause) = codes "scenario: " ++ fault_text key cause
status_text status.ShelfFault = codes "scenario: not read"
status_text status.ReadFault = codes "log: not read"
status_text status.WriteFault = codes "report: not written"
status_text (status.Limit which most) = codes "limit: " ++ limited which ++ codes " " ++ decimal most
status_text status.Memory = codes "memory"
status_text (status.OwnUnready why) = codes "own: " ++ unready_text why
status_text (status.BadEntry index) = codes "rows: entry " ++ decimal index

-- the line of a fault; nothing where the run is finished
abbrev pub fault_line : Status → List ℕ
fault_line status.Done = []
fault_line status.NoManoeuvre = []
fault_line fault = line (status_text fault)

-- the exit status
abbrev pub exit_status_of : Status → ℕ
exit_status_of status.Done = 0
exit_status_of status.NoManoeuvre = 1
exit_status_of status.Usage = 2
exit_status_of (status.Scenario key cause) = 3
exit_status_of status.ShelfFault = 4
exit_status_of status.ReadFault = 5
exit_status_of status.WriteFault = 6
exit_status_of (status.Limit which most) = 7
exit_status_of status.Memory = 8
exit_status_of (status.OwnUnready why) = 9
exit_status_of (status.BadEntry index) = 10

-- whether a fault's line is made of the fault's own numbers or names, which takes memory
abbrev pub is_made : Status → Bool
is_made (status.Limit which most) = true
is_made (status.Scenario key cause) = true
is_made (status.BadEntry index) = true
is_made _ = false
