use Rattle.std.proofs.Common.{◌∙◌, subst, sym}
use Rattle.plan_situations.specs.Situations.{IsSituation}
use Rattle.plan_situations.specs.declared.situation.Situation.{Situation}
use Rattle.sessions.specs.PlanReport.{IsManoeuvre}
use Rattle.sessions.proofs.plan.sought.Goals as goal

pub returns-clause-situation : goal.returns-clause-situation
returns-clause-situation c = c.run-plan.ensures.situation ∙ c.in_ok-search.ensures.situation

pub returns-clause-sound : goal.returns-clause-sound
returns-clause-sound c = subst IsSituation (sym (c.run-plan.ensures.situation ∙ c.in_ok-search.ensures.situation)) c.requires

pub returns-clause-manoeuvre : goal.returns-clause-manoeuvre
returns-clause-manoeuvre c = subst (λ (s : Situation). IsManoeuvre s c.run-plan.result) c.in_ok-search.ensures.situation c.run-plan.ensures.answer
