use Rattle.planner.proofs.TellingNow.{told_none, told_some}
use Rattle.planner.proofs.already.is_no.Goals as goal

pub returns-in-Some : goal.returns-in-Some
returns-in-Some c = λ formulas rows passed has.
    let h = told_some c.args.program.now c.args.values.now c.args.rule formulas rows passed has (c.in-Some.field-0-0, c.in-Some.value) c.in-Some.ensures.fed c.in-Some.ensures.ended in (
      λ t. h.0 (c.is_value_no.ensures.0 t),
      λ b. c.is_value_no.ensures.1 (h.1 b),
    )

pub returns-in-None : goal.returns-in-None
returns-in-None c = λ formulas rows passed has. (
  λ t. cc,
  λ b. absurd (told_none c.args.program.now c.args.values.now c.args.rule formulas rows passed has c.in-None.ensures.fed c.in-None.ensures.ended b),
)
