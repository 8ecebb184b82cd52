use Rattle.std.proofs.Common.{arith}
use Rattle.std.proofs.lemmas.Grind.{common_steps}
use Rattle.mtl_language.proofs.printing.+printing.Goals as goal

pub write_formula-returns-in_ok-push_str-in-Not : goal.write_formula-returns-in_ok-push_str-in-Not
write_formula-returns-in_ok-push_str-in-Not t c = grind (arith, common_steps)

pub write_link-returns : goal.write_link-returns
write_link-returns t c = grind (arith, common_steps)

pub write_pair-returns : goal.write_pair-returns
write_pair-returns t c = grind (arith, common_steps)

pub write_span-returns : goal.write_span-returns
write_span-returns t c = grind (arith, common_steps)
