-- The fields of each kind of row. A row has seven fields; those that are not named are empty.
use Rattle.std.specs.Prelude.{ℕ, codes, Bool, true, false, List, [], ◌∷◌, Option, Some, None}
use Rattle.std.specs.Fmt.{decimal, signed_decimal}
use Rattle.std.specs.Option.{option_copied}
use Rattle.fixed_geometry.specs.declared.point.Point.{Point}
use Rattle.sectors.specs.declared.class.Class.{Class}
use Rattle.sectors.specs.declared.class.Class.TheVariants as class
use Rattle.meetings.specs.declared.pair.Pair.{Pair}
use Rattle.auditor.specs.declared.total.Total.{Total}
use Rattle.log_lines.specs.LineOutcomes.{outcome_name}
use Rattle.log_lines.specs.declared.outcome.LineOutcome.{LineOutcome}
use Rattle.report_csv.specs.CsvRows.{optional_decimal, row_of, Fields}
use Rattle.audit_report.specs.declared.report_row.ReportRow.{ReportRow}
use Rattle.audit_report.specs.declared.report_row.ReportRow.TheVariants as row

-- the vessel, the time, the place to the east and to the north in tenths of a millimetre, speed and course if they are
-- known
abbrev pub point_fields : ℕ → ℕ → Point → Option ℕ → Option ℕ → Fields
point_fields mmsi time point speed course =
    codes "point" ∷ decimal mmsi ∷ decimal time ∷ signed_decimal point.x ∷ signed_decimal point.y
    ∷ optional_decimal speed ∷ optional_decimal course ∷ []

-- a kind of encounter, by the name of its atom
abbrev pub kind_name : Class → List ℕ
kind_name class.Overtaking = codes "overtaking"
kind_name class.Overtaken = codes "overtaken"
kind_name class.HeadOn = codes "head_on"
kind_name class.CrossingGives = codes "crossing_gives"
kind_name class.CrossingStands = codes "crossing_stands"
kind_name class.Passing = codes "passing"
kind_name class.Unclassified = codes "unclassified"

-- the first and the last step, and the least distance in tenths of a millimetre
abbrev pub meeting_fields : Pair → Class → ℕ → ℕ → ℕ → Fields
meeting_fields pair kind first last least =
    codes "meeting" ∷ decimal pair.subject ∷ decimal pair.other ∷ kind_name kind ∷ decimal first ∷ decimal last ∷ decimal least ∷ []

abbrev pub verdict_name : Bool → List ℕ
verdict_name true = codes "open"
verdict_name false = codes "broken"

-- the rule's name, and the first and the last step
abbrev pub verdict_fields : Pair → List ℕ → Bool → ℕ → ℕ → Fields
verdict_fields pair name undecided first last =
    codes "verdict" ∷ decimal pair.subject ∷ decimal pair.other ∷ name ∷ verdict_name undecided ∷ decimal first ∷ decimal last ∷ []

-- the rule's name, the step at which it is broken, and the step that decides it
abbrev pub alarm_fields : Pair → List ℕ → ℕ → ℕ → Fields
alarm_fields pair name position decided =
    codes "alarm" ∷ decimal pair.subject ∷ decimal pair.other ∷ name ∷ decimal position ∷ decimal decided ∷ [] ∷ []

-- a name, or an empty field
abbrev pub optional_name : Option (List ℕ) → List ℕ
optional_name None = []
optional_name (Some name) = name

-- her name, her type, her length in metres, the number of her accepted reports, and the number of legs that join them
abbrev pub vessel_fields : ℕ → Option (List ℕ) → ℕ → ℕ → ℕ → ℕ → Fields
vessel_fields mmsi name kind length reports legs =
    codes "vessel" ∷ decimal mmsi ∷ optional_name name ∷ decimal kind ∷ decimal length ∷ decimal reports ∷ decimal legs ∷ []

-- the rule's name, the positions of all traces, those of each value, and the broken stretches
abbrev pub total_fields : List ℕ → Total → Fields
total_fields name total =
    codes "total" ∷ name ∷ decimal total.positions ∷ decimal total.yes ∷ decimal total.no ∷ decimal total.undecided ∷ decimal total.runs ∷ []

-- the number of lines of an outcome
abbrev pub count_fields : LineOutcome → ℕ → Fields
count_fields outcome count = codes "lines" ∷ outcome_name outcome ∷ decimal count ∷ [] ∷ [] ∷ [] ∷ [] ∷ []

-- the plan's number, the leg, course and speed on it, and its first and its last tick
abbrev pub plan_fields : ℕ → ℕ → ℕ → ℕ → ℕ → ℕ → Fields
plan_fields number leg course speed first last =
    codes "plan" ∷ decimal number ∷ decimal leg ∷ decimal course ∷ decimal speed ∷ decimal first ∷ decimal last ∷ []

-- the number of plans, if every plan fails
abbrev pub no_plan_fields : ℕ → Fields
no_plan_fields plans = codes "none" ∷ decimal plans ∷ [] ∷ [] ∷ [] ∷ [] ∷ [] ∷ []

-- the fields of a row with borrowed names
abbrev pub row_fields : ReportRow → Fields
row_fields (row.Point mmsi time point speed course) = point_fields mmsi time point speed course
row_fields (row.Meeting pair kind first last least) = meeting_fields pair kind first last least
row_fields (row.Verdict pair name undecided first last) = verdict_fields pair name.now undecided first last
row_fields (row.Alarm pair name position decided) = alarm_fields pair name.now position decided
row_fields (row.Vessel mmsi name kind length reports legs) = vessel_fields mmsi (option_copied name) kind length reports legs
row_fields (row.Total name total) = total_fields name.now total
row_fields (row.Lines outcome count) = count_fields outcome count
row_fields (row.Plan number leg course speed first last) = plan_fields number leg course speed first last
row_fields (row.NoPlan plans) = no_plan_fields plans

-- the text of a row
abbrev pub report_row_text : ReportRow → List ℕ
report_row_text row = row_of (row_fields row)
