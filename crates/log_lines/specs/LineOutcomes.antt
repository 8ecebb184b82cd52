-- The outcomes of a log's lines.
use Rattle.std.specs.Prelude.{ℕ, codes, List, [], ◌∷◌}
use Rattle.aivdm.specs.declared.sentence.LineCause.{LineCause}
use Rattle.aivdm.specs.declared.sentence.LineCause.TheVariants as line_cause
use Rattle.ais_messages.specs.declared.message.MessageCause.{MessageCause}
use Rattle.ais_messages.specs.declared.message.MessageCause.TheVariants as message_cause
use Rattle.tracks.specs.declared.entry.ReportCause.{ReportCause}
use Rattle.tracks.specs.declared.entry.ReportCause.TheVariants as report_cause
use Rattle.log_lines.specs.declared.outcome.LineOutcome.{LineOutcome}
use Rattle.log_lines.specs.declared.outcome.LineOutcome.TheVariants as outcome

abbrev pub outcome_name : LineOutcome → List ℕ
outcome_name outcome.Empty = codes "empty"
outcome_name outcome.Long = codes "long"
outcome_name outcome.Tag = codes "tag"
outcome_name outcome.Other = codes "other"
outcome_name outcome.Form = codes "form"
outcome_name outcome.Sum = codes "sum"
outcome_name outcome.Armour = codes "armour"
outcome_name outcome.Outside = codes "outside"
outcome_name outcome.Late = codes "late"
outcome_name outcome.Part = codes "part"
outcome_name outcome.Orphan = codes "orphan"
outcome_name outcome.Short = codes "short"
outcome_name outcome.Kind = codes "kind"
outcome_name outcome.NotShip = codes "notship"
outcome_name outcome.NoPos = codes "nopos"
outcome_name outcome.Far = codes "far"
outcome_name outcome.Back = codes "back"
outcome_name outcome.Repeat = codes "repeat"
outcome_name outcome.Jump = codes "jump"
outcome_name outcome.Static = codes "static"
outcome_name outcome.Point = codes "point"

-- the index in the report, counted from 0
abbrev pub outcome_index : LineOutcome → ℕ
outcome_index outcome.Empty = 0
outcome_index outcome.Long = 1
outcome_index outcome.Tag = 2
outcome_index outcome.Other = 3
outcome_index outcome.Form = 4
outcome_index outcome.Sum = 5
outcome_index outcome.Armour = 6
outcome_index outcome.Outside = 7
outcome_index outcome.Late = 8
outcome_index outcome.Part = 9
outcome_index outcome.Orphan = 10
outcome_index outcome.Short = 11
outcome_index outcome.Kind = 12
outcome_index outcome.NotShip = 13
outcome_index outcome.NoPos = 14
outcome_index outcome.Far = 15
outcome_index outcome.Back = 16
outcome_index outcome.Repeat = 17
outcome_index outcome.Jump = 18
outcome_index outcome.Static = 19
outcome_index outcome.Point = 20

-- all outcomes in the order of the report
unfoldable pub all_outcomes : List LineOutcome
all_outcomes =
    outcome.Empty ∷ outcome.Long ∷ outcome.Tag ∷ outcome.Other ∷ outcome.Form ∷ outcome.Sum ∷ outcome.Armour
    ∷ outcome.Outside ∷ outcome.Late ∷ outcome.Part ∷ outcome.Orphan ∷ outcome.Short ∷ outcome.Kind ∷ outcome.NotShip
    ∷ outcome.NoPos ∷ outcome.Far ∷ outcome.Back ∷ outcome.Repeat ∷ outcome.Jump ∷ outcome.Static ∷ outcome.Point ∷ []

-- the outcome of a line that is dropped for this cause
abbrev pub line_outcome : LineCause → LineOutcome
line_outcome line_cause.Empty = outcome.Empty
line_outcome line_cause.Long = outcome.Long
line_outcome line_cause.Tag = outcome.Tag
line_outcome line_cause.Other = outcome.Other
line_outcome line_cause.Form = outcome.Form
line_outcome line_cause.Sum = outcome.Sum
line_outcome line_cause.Armour = outcome.Armour

abbrev pub message_outcome : MessageCause → LineOutcome
message_outcome message_cause.Short = outcome.Short
message_outcome message_cause.Kind = outcome.Kind
message_outcome message_cause.NotShip = outcome.NotShip

abbrev pub report_outcome : ReportCause → LineOutcome
report_outcome report_cause.NoPos = outcome.NoPos
report_outcome report_cause.Far = outcome.Far
report_outcome report_cause.Back = outcome.Back
report_outcome report_cause.Repeat = outcome.Repeat
report_outcome report_cause.Jump = outcome.Jump
