use Rattle.planner.proofs.already.Already.is_rule_newly_broken.Goals as goal

pub returns-else-is_no : goal.returns-else-is_no
returns-else-is_no c = λ formulas rows passed has. (
  λ t. cc,
  λ p. let t = (c.is_no.ensures formulas rows passed has).1 p.0 in let f = c.if-is_no.false in cc,
)
