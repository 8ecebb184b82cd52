use Rattle.refutations.proofs.prefix.legs_in_common.Goals as goal

pub returns-then-plan-leg : goal.returns-then-plan-leg
returns-then-plan-leg c = record { alike = c.loop-leg.invariant }
