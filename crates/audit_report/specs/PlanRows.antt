-- The rows of a plan of own ship: its legs, or a row that there is no plan.
use Rattle.std.specs.Prelude.{ℕ, ◌+◌, ◌*◌, nat_lt, flat_map, List, Option, Some, None, slice_index, if◌then◌else◌}
use Rattle.std.specs.List.{range_with_len}
use Rattle.report_csv.specs.CsvRows.{row_of, Fields}
use Rattle.audit_report.specs.ReportRows.{no_plan_fields, plan_fields}
use Rattle.lattice.specs.Grids.{Grid, choices_of, plans_of, positions_of}
use Rattle.lattice.specs.OwnMotion.{ordered_course, ordered_speed}
use Rattle.lattice.specs.PlanNumbers.{number_of}
use Rattle.plan_situations.specs.declared.readiness.Ready.{Ready}

-- A leg begins at the end of the one before it, and the last one ends with the plan.
abbrev pub first_tick : ℕ → Grid → ℕ → ℕ
first_tick now lattice leg = now + leg * lattice.leg_ticks

abbrev pub last_tick : ℕ → Grid → ℕ → ℕ
last_tick now lattice leg = if nat_lt (leg + 1) lattice.legs then first_tick now lattice (leg + 1) else now + positions_of lattice

-- a leg, with the course and the speed that it orders
abbrev pub leg_fields : ℕ → Grid → Ready → List ℕ → ℕ → Fields
leg_fields now lattice ready plan leg =
    plan_fields (number_of (choices_of lattice) plan) leg
    (ordered_course lattice (slice_index plan leg) ready.course) (ordered_speed lattice (slice_index plan leg) ready.speed)
    (first_tick now lattice leg) (last_tick now lattice leg)

abbrev pub leg_rows : ℕ → Grid → Ready → List ℕ → List ℕ
leg_rows now lattice ready plan = flat_map (λ leg. row_of (leg_fields now lattice ready plan leg)) (range_with_len 0 lattice.legs)

-- the rows of a plan's legs, or the row that there is no plan
abbrev pub manoeuvre_rows : ℕ → Grid → Ready → Option (List ℕ) → List ℕ
manoeuvre_rows now lattice ready None = row_of (no_plan_fields (plans_of lattice))
manoeuvre_rows now lattice ready (Some plan) = leg_rows now lattice ready plan
