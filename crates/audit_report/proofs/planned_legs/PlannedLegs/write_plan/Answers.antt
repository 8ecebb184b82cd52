use Rattle.std.proofs.Common.{ℕ, ◌≡◌, List, ◌++◌, flat_map, refl, subst, arith}
use Rattle.std.specs.List.{range_with_len}
use Rattle.report_csv.specs.CsvRows.{row_of}
use Rattle.audit_report.specs.ReportTexts.{HasText}
use Rattle.audit_report.specs.PlanRows.{leg_fields}
use Rattle.audit_report.proofs.LegRows.{one_leg_on}
use Rattle.audit_report.proofs.planned_legs.PlannedLegs.write_plan.Goals as goal

pub loop-leg-preserved : goal.loop-leg-preserved
loop-leg-preserved c = λ front has.
    let legs = c.args.self.now in
    let plan = c.args.plan.now in
    let row : ℕ → List ℕ = λ leg. row_of (leg_fields legs.begin legs.lattice.now legs.ready plan leg) in
    subst (HasText c.write.new.self) (one_leg_on row front c.loop-leg.leg _ (
    rw (c.number.ensures.value, c.course.ensures.value, c.speed.ensures.value, c.first_tick.ensures, c.last_tick.ensures) refl))
    (c.in_ok-write.ensures _ (c.loop-leg.invariant front has))

pub returns : goal.returns
returns c = λ front has.
    let legs = c.args.self.now in
    let row : ℕ → List ℕ = λ leg. row_of (leg_fields legs.begin legs.lattice.now legs.ready c.args.plan.now leg) in
    let all : c.loop-leg.leg ≡ legs.lattice.now.legs = omega (arith, c.loop-leg-test.false, c.loop-leg.auto.leg-end, c.legs-leg-end.ensures.value) in
    subst (λ (n : ℕ). HasText c.loop-leg.text (front ++ flat_map row (range_with_len 0 n))) all (c.loop-leg.invariant front has)
