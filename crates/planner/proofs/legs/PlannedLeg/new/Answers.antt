use Rattle.std.proofs.Common.{ℕ, ◌+◌, ◌^◌, ◌<◌, sym, subst, ◌∙◌, arith, rules}
use Rattle.plan_situations.specs.Paths.{HasReached}
use Rattle.planner.proofs.Extending.{leg_begins, reached_front}
use Rattle.planner.proofs.legs.PlannedLeg.new.Goals as goal

pub overflow_add-index : goal.overflow_add-index
overflow_add-index c =
    let lt = c.requires.index in
    let few = c.requires.situation.few_legs in
    let small : c.args.index + 1 < 2 ^ 8 = omega arith in
    search rules

pub returns-clause-leg : goal.returns-clause-leg
returns-clause-leg c =
    let s = c.args.situation.now in
    let plan = c.first_plan.result in
    record {
      inside = c.requires.index;
      number = c.requires.number;
      is_plan = c.first_plan.ensures.plan;
      shares = c.first_plan.ensures.begins;
      from = c.leg_begins.ensures ∙ sym (leg_begins s.lattice c.args.index c.requires.index);
      reached = subst (λ (n : ℕ). HasReached s plan n c.args.own) (sym c.leg_begins.ensures)
          (reached_front s c.args.index c.args.number plan c.args.own c.requires.index c.first_plan.ensures.begins c.requires.own);
      last = c.is_last.ensures;
    }
