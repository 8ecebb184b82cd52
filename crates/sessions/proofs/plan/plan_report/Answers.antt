use Rattle.std.proofs.Common.{List, ℕ, ◌++◌, ◌∙◌, ap, subst, sym}
use Rattle.plan_situations.specs.LeastPlans.{AllFail}
use Rattle.plan_situations.specs.declared.situation.Situation.{Situation}
use Rattle.sessions.specs.Inner.PlanWriting.{AreReasonsWhere}
use Rattle.sessions.proofs.plan.plan_report.Goals as goal

pub add_reasons-requires-clause-fail : goal.add_reasons-requires-clause-fail
add_reasons-requires-clause-fail c = λ none. subst AllFail (sym c.situation.ensures) (c.requires.fail none)

pub returns-clause-report : goal.returns-clause-report
returns-clause-report c = λ scenario lines front stands has.
    let counts = c.in_ok-write_counts.ensures scenario lines front stands has in
    let (reasons, are, added) = c.in_ok-add_reasons.ensures in (
      reasons,
      subst (λ (s : Situation). AreReasonsWhere c.args.why c.args.found.now.none s reasons) c.situation.ensures are,
      added ∙ ap (λ (t : List ℕ). t ++ reasons) (c.in_ok-bytes.ensures _ counts),
    )
